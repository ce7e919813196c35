-- The versions of the study file, in one table: what a version fixes of the format. Version 1 is document 01's; a request of document 02 that
-- brings a version adds a row.
use Rattle.std.specs.Prelude.{ℕ, ◌-◌, ◌*◌, cond, List, [], ◌∷◌, ltb, get_or}
use Rattle.study.specs.declared.versions.Form.{Form}

-- By version from 1 on: the bytes of the header, the bytes of a link, and how many sections there are, of the six links, destinations, trips,
-- closed nodes (A.2), lorry trips and barred links (A.7). A link of 12 bytes has a power (A.5).
unfoldable pub versions : List Form
versions =
    record { header = 32; link = 10; sections = 3 }
    ∷ record { header = 40; link = 10; sections = 4 }
    ∷ record { header = 40; link = 12; sections = 4 }
    ∷ record { header = 56; link = 12; sections = 6 }
    ∷ []

unfoldable pub form_of : ℕ → Form
form_of version = get_or versions (version - 1) (record { header = 0; link = 0; sections = 0 })

-- The length of a section in a version, of a study of n nodes, m links and p destinations: the version's bytes a link × m, 2p, 2pn, a closed byte
-- for each node, 2pn again for the lorries, and a barred byte for each link. A section that the version does not have is empty.
unfoldable pub section_size : ℕ → ℕ → ℕ → ℕ → ℕ → ℕ
section_size version n m p section =
    cond (ltb section (form_of version).sections)
    (get_or ((form_of version).link * m ∷ 2 * p ∷ 2 * p * n ∷ n ∷ 2 * p * n ∷ m ∷ []) section 0)
    0
