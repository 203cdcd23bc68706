-- "Each" and "some" over the numbers below a bound, computed, and the word of those of which a test holds.
use Rattle.std.specs.Prelude.{◌≡◌, Bool, true, false, not, ◌||◌, ℕ, zero, suc}
use Rattle.atoms.specs.Word.{has, atom, ◌∪◌}

-- r says whether P holds
pub record Decides (P : Type 0) (r : Bool) : Type 0 where
  pub yes : r ≡ true → P
  pub no : r ≡ false → ¬ P

-- the test holds of each number below n
unfoldable pub all_below : ℕ → (ℕ → Bool) → Bool
all_below zero p = true
all_below (suc n) p = elim (p n) [ true ↦ all_below n p | false ↦ false ]

-- the test holds of some number below n
unfoldable pub some_below : ℕ → (ℕ → Bool) → Bool
some_below zero p = false
some_below (suc n) p = elim (p n) [ true ↦ true | false ↦ some_below n p ]

-- the test holds of each number below n that is in the word w
abbrev pub all_in : ℕ → ℕ → (ℕ → Bool) → Bool
all_in n w p = all_below n (λ i. not (has w i) || p i)

-- the word of the numbers below n of which the test holds
unfoldable pub word_below : ℕ → (ℕ → Bool) → ℕ
word_below zero p = 0
word_below (suc n) p = elim (p n) [ true ↦ word_below n p ∪ atom n | false ↦ word_below n p ]

-- the atoms of the words f i, for the numbers i below n that are in the word w
unfoldable pub union_in : ℕ → ℕ → (ℕ → ℕ) → ℕ
union_in zero w f = 0
union_in (suc n) w f = elim (has w n) [ true ↦ union_in n w f ∪ f n | false ↦ union_in n w f ]

-- the set of the one number i where the test holds, and the empty set where it does not
unfoldable pub single_if : Bool → ℕ → ℕ
single_if b i = elim b [ true ↦ atom i | false ↦ 0 ]
