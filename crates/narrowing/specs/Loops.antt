-- Inner: atoms that may hold each other up.
use Rattle.std.specs.Prelude.{List, ◌⊎◌, ℕ, ◌^◌, ◌<◌}
use Rattle.atoms.specs.Word.{ATOMS, Has, ◌⊆◌}
use Rattle.atoms.specs.Collected.{Collects}
use Rattle.answer_sets.specs.Lent.{lent}

-- atom a is in the head of rule r, which has a positive atom among these
pub record HeldBy (rules : List ℕ) (r within a : ℕ) : Type 0 where
  pub in_head : Has ((lent rules).head r) a
  pub atom : ℕ
  pub positive : Has ((lent rules).positive r) atom
  pub among : Has within atom

-- so it is with a rule of the word
pub record HeldOn (rules : List ℕ) (which within a : ℕ) : Type 0 where
  pub rule : ℕ
  pub numbered : Has which rule
  pub by : HeldBy rules rule within a

-- each atom of the set is held on atoms of the set
pub record HoldsUp (rules : List ℕ) (which set : ℕ) : Type 0 where
  pub held : (a : ℕ) → Has set a → HeldOn rules which set a

-- the largest such set: the atoms that depend on a positive loop
pub record Looped (rules : List ℕ) (which r : ℕ) : Type 0 where
  pub holds_up : HoldsUp rules which r
  pub largest : (set : ℕ) → set < 2 ^ ATOMS → HoldsUp rules which set → set ⊆ r

-- of the atoms those that rule r holds are added, and nothing else
pub record HeldMore (rules : List ℕ) (r within before after : ℕ) : Type 0 where
  pub kept : before ⊆ after
  pub added : (a : ℕ) → Has within a → HeldBy rules r within a → Has after a
  pub no_more : (a : ℕ) → Has after a → Has before a ⊎ (Has within a × HeldBy rules r within a)

-- those that a rule of the word holds
abbrev pub HeldAmong : List ℕ → ℕ → ℕ → ℕ → Type 0
HeldAmong rules which within r = Collects (λ a. Has within a × HeldOn rules which within a) r
