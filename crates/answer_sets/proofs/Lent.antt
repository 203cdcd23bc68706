-- Which rules are lent, and that answer sets of lent words are words.
use Rattle.answer_sets.proofs.Prelude.{◌≡◌, ◌↔◌, inl, inr, List, ℕ, ◌^◌, ◌<◌, ◌≤◌, min, arith, length, get_or, ATOMS, Has, ◌⊆◌, ◌∩◌, below, Lowest}
use Rattle.answer_sets.proofs.Prelude.{has_cut, cut_left, cut_right, has_below, below_lt, has_lt, lt_of_has, MAX_RULES, AnswerSet, lent, rule_at}
use Rattle.answer_sets.proofs.Prelude.{rule_count_of, IsLent, Lent, numbered, kept}
use Rattle.std.proofs.Math.Nat.{min_comm}
use Rattle.answer_sets.proofs.JudgedSets.{kept_at}
use Rattle.answer_sets.proofs.Support.{Supported, supported}

pub lent_within : {rules : List ℕ} {v w : ℕ} → v ⊆ w → Lent rules w → Lent rules v
lent_within f l = record { each = λ r h. l.each r (f.each r h) }

-- a rule that a loop takes from the word
pub lent_taken : {rules : List ℕ} {which rest r : ℕ} → Lent rules which → rest ⊆ which → Lowest rest r → IsLent rules r
lent_taken {r = r} l f low = l.each r (f.each r low.here)

-- the first n rules, where their words are there
pub lent_below : (rules : List ℕ) (n : ℕ) → rule_at n ≤ length rules → Lent rules (below n)
lent_below rules n long = record { each = λ r h. let l : r < n = below_lt n h in omega arith }

pub lent_kept : {rules : List ℕ} {which word : ℕ} (M : ℕ) → word ≡ kept (lent rules) which M → Lent rules which → Lent rules word
lent_kept {rules} {which} M e l = rw e (record { each = λ r h. l.each r (kept_at (lent rules) which M r h).numbered })

pub lent_numbered : (rules : List ℕ) (n which : ℕ) → Lent rules (numbered rules n which)
unfolding numbered
lent_numbered rules n which = record {
  each = λ r h.
      let there = min MAX_RULES (min n (rule_count_of rules)) in
      let l : r < there = below_lt there (cut_right which (below there) h) in
      omega arith;
}

-- "bits with no rule are ignored": of the word's numbers those below n that have a rule
pub numbered_exactly : (rules : List ℕ) (n which r : ℕ)
    → Has (numbered rules n which) r ↔ (Has which r × ((r < MAX_RULES) × ((r < n) × IsLent rules r)))
unfolding numbered
numbered_exactly rules n which r = (
  λ h.
      let l : r < there = below_lt there (cut_right which (below there) h) in
      (cut_left which (below there) h, (omega arith, (omega arith, omega arith))),
  λ h. has_cut which (below there) h.0 (has_below there r (omega (arith, h.1.0, h.1.1.0, h.1.1.1))),
)
  where
    there : ℕ
    there = min MAX_RULES (min n (rule_count_of rules))

-- what the code cuts the word to
pub numbered_cut : (rules : List ℕ) (n which : ℕ) {m there least first r : ℕ} → m ≡ rule_count_of rules → there ≡ min n m
    → least ≡ min there MAX_RULES → first ≡ below least → r ≡ which ∩ first → (r ≡ numbered rules n which) × Lent rules r
unfolding numbered
numbered_cut rules n which {r = r} a b c d e = (is, rw is (lent_numbered rules n which))
  where
    is : r ≡ numbered rules n which
    is = rw (e, d, c, min_comm, b, a)

-- an answer set has only facts and atoms of heads, and these are words
pub answer_word : (rules : List ℕ) {which facts M : ℕ} → ((i : ℕ) → get_or rules i 0 < 2 ^ ATOMS) → facts < 2 ^ ATOMS
    → AnswerSet (lent rules) which facts M → M < 2 ^ ATOMS
unfolding lent
answer_word rules {which} {facts} {M} g f a = lt_of_has M ATOMS (λ i h. go i (supported (lent rules) which facts M i a h))
  where
    go : (i : ℕ) → Supported (lent rules) which facts i → i < ATOMS
    go i (inl h) = has_lt facts ATOMS f h
    go i (inr s) = has_lt (get_or rules (rule_at s.0) 0) ATOMS (g (rule_at s.0)) s.2
