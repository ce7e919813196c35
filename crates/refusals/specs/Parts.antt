-- A study file as it is decoded for a call, in four parts.
use Rattle.std.specs.Prelude.{ℕ, ◌≡◌, List}
use Rattle.study.specs.Questions.{refusal}
use Rattle.study.specs.Sections.{nodes}
use Rattle.calls.specs.Study.{link_rows, commodities, trip_entries}
use Rattle.judging.specs.Study.{Study, study_of}

-- The number of the first of questions 1 to 5 that refuses a file, or 0, and the four parts of its study.
pub record PartsOf (file : List ℕ) (opening n : ℕ) (link_list : List (List ℕ)) (commodity_list entries : List ℕ) : Type 0 where
  pub opening-is : opening ≡ refusal file
  pub nodes-are : n ≡ nodes file
  pub links-are : link_list ≡ link_rows file
  pub commodities-are : commodity_list ≡ commodities file
  pub trips-are : entries ≡ trip_entries file

-- The study of a file.
abbrev pub study_in : List ℕ → Study
study_in file = study_of (nodes file) (link_rows file) (commodities file) (trip_entries file)
