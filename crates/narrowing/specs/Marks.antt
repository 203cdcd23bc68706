-- Inner: tables of words to which numbers were added.
use Rattle.std.specs.Prelude.{◌≡◌, List, ◌⊎◌, ℕ, ◌+◌, length, get_or}
use Rattle.atoms.specs.Word.{Has, ◌⊆◌}

-- at place i are the numbers that were there, and those with N; nothing else came and nothing went
pub record AddsAt (N : ℕ → ℕ → Type 0) (before after : List ℕ) : Type 0 where
  pub same_length : length after ≡ length before
  pub grown : (i : ℕ) → get_or before i 0 ⊆ get_or after i 0
  pub added : (i q : ℕ) → N i q → Has (get_or after i 0) q
  pub no_more : (i q : ℕ) → Has (get_or after i 0) q → Has (get_or before i 0) q ⊎ N i q

-- what one of the numbers of the word adds
pub record ByOne (N : ℕ → ℕ → ℕ → Type 0) (which i q : ℕ) : Type 0 where
  pub number : ℕ
  pub numbered : Has which number
  pub adds : N number i q

-- number q of the word is noted at place i, for an atom of the set; the atoms' words stand from `base` on
pub record NotedAt (base which word i q : ℕ) : Type 0 where
  pub atom : ℕ
  pub in_set : Has which atom
  pub place : i ≡ base + atom
  pub in_word : Has word q

-- the word is noted for each atom of the set
abbrev pub Marked : ℕ → ℕ → ℕ → List ℕ → List ℕ → Type 0
Marked base which word before after = AddsAt (NotedAt base which word) before after
