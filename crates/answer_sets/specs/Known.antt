-- What is known of a rule's body at a half-decided position (document 02, S-7).
use Rattle.std.specs.Prelude.{◌≡◌, true, ◌↔◌, List, ℕ, ◌<◌}
use Rattle.atoms.specs.Word.{Has, ◌⊆◌, Apart}
use Rattle.answer_sets.specs.Lent.{lent, negative, uses, USE_BITS, use_holds}
use Rattle.states.specs.State.{Completes, half_decided}
use Rattle.states.specs.declared.state.State.{State}
use Rattle.answer_sets.specs.declared.truth.Truth.{Truth}
use Rattle.answer_sets.specs.declared.truth.Truth.TheVariants.{Holds, Fails, Open}

-- "says holds exactly if it is true in every completion, fails exactly if false in every one"
pub record Says (Q : ℕ → Type 0) (s : State) (t : Truth) : Type 0 where
  pub holds : (t ≡ Holds) ↔ ((N : ℕ) → Completes s N → Q N)
  pub fails : (t ≡ Fails) ↔ ((N : ℕ) → Completes s N → ¬ Q N)

-- the parts of a body: "Each word and each use of a table in the body"
pub data Part : Type 0 where
  positive_word : Part
  negative_word : Part
  table_use : ℕ → Part

-- part p of rule r is true at N
abbrev pub PartHolds : List ℕ → ℕ → Part → ℕ → Type 0
PartHolds rules r positive_word N = (lent rules).positive r ⊆ N
PartHolds rules r negative_word N = Apart (negative rules r) N
PartHolds rules r (table_use i) N = use_holds rules i N ≡ true

-- part p is one of rule r's
pub data InBody (rules : List ℕ) (r : ℕ) : Part → Type 0 where
  has_positive : InBody rules r positive_word
  has_negative : InBody rules r negative_word
  has_use : (i : ℕ) → i < USE_BITS → Has (uses rules r) i → InBody rules r (table_use i)

-- of parts of rule r together: they hold "if all parts hold", fail "if one fails", and else are open
pub record PartsSay (rules : List ℕ) (r : ℕ) (Among : Part → Type 0) (s : State) (t : Truth) : Type 0 where
  pub holds : (t ≡ Holds) ↔ ((p : Part) → Among p → (N : ℕ) → Completes s N → PartHolds rules r p N)
  pub fails : (t ≡ Fails) ↔ ((p : Part) × Among p × ((N : ℕ) → Completes s N → ¬ PartHolds rules r p N))

-- "The body holds if all parts hold, fails if one fails, else it is open."
abbrev pub BodySays : List ℕ → ℕ → ℕ → ℕ → Truth → Type 0
BodySays rules r up dropped t = PartsSay rules r (InBody rules r) (half_decided up dropped) t

-- two tests together, and a test the other way round
abbrev pub both : Truth → Truth → Truth
both Fails t = Fails
both Holds t = t
both Open Fails = Fails
both Open Holds = Open
both Open Open = Open

abbrev pub opposite : Truth → Truth
opposite Holds = Fails
opposite Fails = Holds
opposite Open = Open

-- Inner: what a word of atoms says that are wanted: it holds where all are there, it fails where one is barred
pub record WordSays (word wanted barred : ℕ) (t : Truth) : Type 0 where
  pub holds : (t ≡ Holds) ↔ (word ⊆ wanted)
  pub fails : (t ≡ Fails) ↔ ¬ Apart word barred

-- Inner: what a truth word says of some rows: it holds where it has all of them, it fails where it has none
pub record RowsSay (rows word : ℕ) (t : Truth) : Type 0 where
  pub holds : (t ≡ Holds) ↔ (rows ⊆ word)
  pub fails : (t ≡ Fails) ↔ Apart rows word

-- Inner: part p is a word of the body
pub data IsWord : Part → Type 0 where
  is_positive : IsWord positive_word
  is_negative : IsWord negative_word

-- Inner: what the words of rule r's body say, where the atoms of `down` are dropped
abbrev pub WordsSay : List ℕ → ℕ → ℕ → ℕ → Truth → Type 0
WordsSay rules r up down t = PartsSay rules r IsWord (record { up = up; dropped = down }) t
