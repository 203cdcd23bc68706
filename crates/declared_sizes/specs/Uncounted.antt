-- A plan without its COUNT, and what the two have in common.
use Rattle.std.specs.Prelude.{◌≡◌, List, [], ℕ, Option}
use Rattle.reading.specs.Kinds.{Single, sizes, single-discrete}
use Rattle.reading.specs.Layout.{OnceElement, Contents}
use Rattle.judge.specs.Answers.{judged}
use Rattle.demands.specs.Answer.{answer}
use Rattle.plan_sheet.specs.PlanSheets.{plan_sheet}
use Rattle.stepping.specs.Followed.{followed}

-- what may stand once, and no COUNT
abbrev pub no_count : Contents → (s : Single) → List (OnceElement s)
no_count c s = elim (single-discrete s sizes) [ yes e ↦ [] | no n ↦ c.once s ]

-- the same lists, and no COUNT
abbrev pub uncounted : Contents → Contents
uncounted c =
    record {
      once = no_count c;
      tables = c.tables;
      rules = c.rules;
      uses = c.uses;
      units = c.units;
      edges = c.edges;
    }

-- both plans get the same answers: to single positions, in the lent table, on the sheet, and from position to position
pub record AnsweredAlike (bytes plain : List ℕ) : Type 0 where
  pub judged_alike : (M : ℕ) → judged bytes M ≡ judged plain M
  pub listed_alike : (table : List ℕ) → answer bytes table ≡ answer plain table
  pub sheet_alike : plan_sheet bytes ≡ plan_sheet plain
  pub next_alike : (from : Option ℕ) → followed bytes from ≡ followed plain from
