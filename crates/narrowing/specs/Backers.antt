-- Inner: which rules may back an atom.
use Rattle.std.specs.Prelude.{◌≡◌, List, ◌⊎◌, ℕ, length, get_or}
use Rattle.atoms.specs.Word.{ATOMS, Has, ◌⊆◌}
use Rattle.answer_sets.specs.Lent.{lent, negative}

-- the atom is in the rule's head and in neither body word
pub record Backs (rules : List ℕ) (r a : ℕ) : Type 0 where
  pub in_head : Has ((lent rules).head r) a
  pub not_positive : ¬ Has ((lent rules).positive r) a
  pub not_negative : ¬ Has (negative rules r) a

-- the rule is noted for each atom that it may back; else nothing came and nothing went
pub record RuleBacks (rules : List ℕ) (r : ℕ) (before after : List ℕ) : Type 0 where
  pub same_length : length after ≡ length before
  pub noted : (a : ℕ) → Backs rules r a → Has (get_or after a 0) r
  pub grown : (a : ℕ) → get_or before a 0 ⊆ get_or after a 0
  pub no_more : (a q : ℕ) → Has (get_or after a 0) q → Has (get_or before a 0) q ⊎ ((r ≡ q) × Backs rules r a)

-- so is each numbered rule
pub record RulesBack (rules : List ℕ) (which : ℕ) (before after : List ℕ) : Type 0 where
  pub same_length : length after ≡ length before
  pub noted : (r a : ℕ) → Has which r → Backs rules r a → Has (get_or after a 0) r
  pub no_more : (a q : ℕ) → Has (get_or after a 0) q → Has (get_or before a 0) q ⊎ (Has which q × Backs rules q a)

-- for each atom the numbered rules that may back it
pub record Backers (rules : List ℕ) (which : ℕ) (backers : List ℕ) : Type 0 where
  pub long : length backers ≡ ATOMS
  pub numbered : (a : ℕ) → get_or backers a 0 ⊆ which
  pub every : (r a : ℕ) → Has which r → Backs rules r a → Has (get_or backers a 0) r
  pub no_more : (r a : ℕ) → Has (get_or backers a 0) r → Backs rules r a
