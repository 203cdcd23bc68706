-- How many listed positions fit a question. Document 02, S-2: "these up, these dropped".
use Rattle.std.specs.Prelude.{◌≡◌, Bool, true, false, ◌&&◌, ◌↔◌, ℕ, ◌+◌, ◌<◌, length, get_or, ltb}
use mathlib.Core.List.{List, [], ◌∷◌, Memᴰ}
use Rattle.atoms.specs.Word.{◌⊆◌, Apart, subset, apart}
use Rattle.atoms.specs.Lists.{tabulate}
use Rattle.atoms.specs.Rising.{Rising}

-- "The caller lends up to 64 questions together"
abbrev pub MAX_QUESTIONS : ℕ
MAX_QUESTIONS = 64

-- "positions that have every up atom and no dropped one"
pub record FitsQuestion (up dropped position : ℕ) : Type 0 where
  pub every_up : up ⊆ position
  pub none_dropped : Apart dropped position

-- the same, computed
unfoldable pub fits : ℕ → ℕ → ℕ → Bool
fits up dropped position = subset up position && apart dropped position

abbrev pub one : Bool → ℕ
one true = 1
one false = 0

-- "Each count equals the number of listed positions that ..": "a repeat counts at each place"
unfoldable pub fitting_count : List ℕ → ℕ → ℕ → ℕ
fitting_count [] up dropped = 0
fitting_count (p ∷ ps) up dropped = one (fits up dropped p) + fitting_count ps up dropped

-- the same of places: "the number of listed positions that ..", and "a repeat counts at each place"
pub record Places (list : List ℕ) (up dropped n : ℕ) : Type 0 where
  pub places : List ℕ
  pub rising : Rising places
  pub where_it_fits : (at : ℕ) → Memᴰ at places ↔ ((at < length list) × FitsQuestion up dropped (get_or list at 0))
  pub as_many : length places ≡ n

-- each count of a list is that
pub record CountsMean (list : List ℕ) : Type 0 where
  pub count : (up dropped : ℕ) → Places list up dropped (fitting_count list up dropped)

-- the number that f gives below n, and 0 from n on
unfoldable pub up_to : ℕ → (ℕ → ℕ) → ℕ → ℕ
up_to n f i = elim (ltb i n) [ true ↦ f i | false ↦ 0 ]

-- the counts of the first n questions, by their words; 0 for those behind them
unfoldable pub counts_of : List ℕ → ℕ → List ℕ → List ℕ → List ℕ
counts_of list n up dropped = tabulate MAX_QUESTIONS (up_to n (λ i. fitting_count list (get_or up i 0) (get_or dropped i 0)))

-- the counts after one position more
unfoldable pub held : ℕ → ℕ → List ℕ → List ℕ → List ℕ → List ℕ
held position n up dropped counts =
    tabulate (length counts) (λ i. get_or counts i 0 + up_to n (λ j. one (fits (get_or up j 0) (get_or dropped j 0) position)) i)
