-- Where no bit of any trips is left there are none (`zero_joined`).
use Rattle.std.proofs.Common.{◌≡◌, bit_or, sym, ◌∙◌, rules}
use Rattle.std.specs.List.{fold}
use Rattle.loading.specs.Laws.Sending.{zero_joined}
use Rattle.loading.proofs.sending.any_trips.Goals as goal

pub returns : goal.returns
returns c e =
    let joined : c.fold.result ≡ fold (λ any own. bit_or any own) 0 c.args.trips.now = search rules in
    let none : c.fold.result ≡ 0 = search rules in
    (zero_joined c.args.trips.now 0 (sym joined ∙ none)).1
