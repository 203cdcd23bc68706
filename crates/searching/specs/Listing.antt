-- Inner: a rising list in LIST_WORDS words, zeros behind it, and what is said of one that grows or has become too long.
use Rattle.std.specs.Prelude.{◌≡◌, ◌⊎◌, ℕ, ◌-◌, ◌≤◌, length, take, drop, replicate}
use mathlib.Core.List.{List, ◌++◌, Memᴰ}
use Rattle.atoms.specs.Rising.{Rising, insert_into}
use Rattle.plan.specs.Limits.{LIST_WORDS, OVERFULL}

-- the words hold a rising list of `count` members and zeros behind it
pub record Ordered (list : List ℕ) (count : ℕ) : Type 0 where
  pub long : length list ≡ LIST_WORDS
  pub small : count ≤ LIST_WORDS
  pub rising : Rising (take count list)
  pub zeros : drop count list ≡ replicate (LIST_WORDS - count) 0

-- more positions are wanted than a list may have
pub record Overfull (Wanted : ℕ → Type 0) : Type 0 where
  pub many : List ℕ
  pub rising : Rising many
  pub long : length many ≡ OVERFULL
  pub sound : (x : ℕ) → Memᴰ x many → Wanted x

-- what is left in the words then: which positions they hold is free, but each is wanted
pub record LeftOver (Wanted : ℕ → Type 0) (list : List ℕ) : Type 0 where
  pub long : length list ≡ LIST_WORDS
  pub sound : (x : ℕ) → Memᴰ x list → Wanted x

-- the list holds just what is wanted; or more positions are wanted than it may have, and the count says so
pub data Gathered (Wanted : ℕ → Type 0) (list : List ℕ) : ℕ → Type 0 where
  fits : {count : ℕ} → Ordered list count → ((x : ℕ) → Memᴰ x (take count list) → Wanted x)
      → ((x : ℕ) → Wanted x → Memᴰ x (take count list)) → Gathered Wanted list count
  over : Overfull Wanted → LeftOver Wanted list → Gathered Wanted list OVERFULL

-- a member of the list so far, or one of those that are added
abbrev pub Grown : List ℕ → ℕ → (ℕ → Type 0) → ℕ → Type 0
Grown list count Added x = Memᴰ x (take count list) ⊎ Added x

-- what an insertion leaves: the list with the value in its place, or that this list is too long, and as much of it as there is room for
pub data Inserted (list : List ℕ) (count value : ℕ) (after : List ℕ) : ℕ → Type 0 where
  room : {r : ℕ} → r ≡ length (insert_into value (take count list)) → r ≤ LIST_WORDS
      → after ≡ insert_into value (take count list) ++ drop r list → Inserted list count value after r
  no_room : length (insert_into value (take count list)) ≡ OVERFULL → after ≡ take LIST_WORDS (insert_into value (take count list))
      → Inserted list count value after OVERFULL

-- it is this position, and of interest
pub record Offered (K : ℕ → Type 0) (position M : ℕ) : Type 0 where
  pub is : M ≡ position
  pub belongs : K M
