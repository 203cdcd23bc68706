-- Tables of words to which numbers are added: one after the other, by a loop over the numbers of a word, and one word at a place.
use Rattle.narrowing.proofs.Prelude.{◌≡◌, refl, sym, subst, ◌∙◌, ◌⊎◌, inl, inr, List, ℕ, ◌+◌, ◌<◌, ◌≤◌, ℕ_discrete, length, get_or, set, length-set}
use Rattle.narrowing.proofs.Prelude.{get_or-set_same, get_or-set_other, Has, ◌⊆◌, ◌∪◌, ◌∖◌, atom, Lowest, subset_refl, subset_trans, has_left, has_right}
use Rattle.narrowing.proofs.Prelude.{union_cases, has_without, without_left, without_right, has_atom, taken_within, none_done, all_done, done_cases}
use Rattle.narrowing.proofs.Prelude.{taken_lent, AddsAt, ByOne, Marked}

-- a table that keeps its length is still long enough
pub still_long : (n : ℕ) (before table : List ℕ) → length table ≡ length before → n ≤ length before → n ≤ length table
still_long n before table e l = rw e l

-- ---- one after the other

module _ {N : ℕ → ℕ → Type 0} where
  pub adds_none : {table : List ℕ} → ((i q : ℕ) → ¬ N i q) → AddsAt N table table
  adds_none n = record { same_length = refl; grown = λ i. subset_refl; added = λ i q k. absurd (n i q k); no_more = λ i q h. inl h }

  pub adds_iff : {M : ℕ → ℕ → Type 0} {before after : List ℕ} → ((i q : ℕ) → N i q → M i q) → ((i q : ℕ) → M i q → N i q) → AddsAt N before after
      → AddsAt M before after
  adds_iff {M} {before} f g a = record {
    same_length = a.same_length;
    grown = a.grown;
    added = λ i q k. a.added i q (g i q k);
    no_more = λ i q h. go i q (a.no_more i q h);
  }
    where
      go : (i q : ℕ) → Has (get_or before i 0) q ⊎ N i q → Has (get_or before i 0) q ⊎ M i q
      go i q (inl h) = inl h
      go i q (inr k) = inr (f i q k)

  pub adds_trans : {M : ℕ → ℕ → Type 0} {before table after : List ℕ} → AddsAt N before table → AddsAt M table after
      → AddsAt (λ i q. N i q ⊎ M i q) before after
  adds_trans {M} {before} {table} {after} a b = record {
    same_length = b.same_length ∙ a.same_length;
    grown = λ i. subset_trans (a.grown i) (b.grown i);
    added = λ i q k. either i q k;
    no_more = λ i q h. go i q (b.no_more i q h);
  }
    where
      either : (i q : ℕ) → N i q ⊎ M i q → Has (get_or after i 0) q
      either i q (inl k) = (b.grown i).each q (a.added i q k)
      either i q (inr k) = b.added i q k

      first : (i q : ℕ) → Has (get_or before i 0) q ⊎ N i q → Has (get_or before i 0) q ⊎ (N i q ⊎ M i q)
      first i q (inl h) = inl h
      first i q (inr k) = inr (inl k)

      go : (i q : ℕ) → Has (get_or table i 0) q ⊎ M i q → Has (get_or before i 0) q ⊎ (N i q ⊎ M i q)
      go i q (inl h) = first i q (a.no_more i q h)
      go i q (inr k) = inr (inr k)

-- ---- by a loop that takes the numbers of a word; those of `rest` are still to come

pub record Adding (N : ℕ → ℕ → ℕ → Type 0) (which rest : ℕ) (before table : List ℕ) : Type 0 where
  pub within : rest ⊆ which
  pub done : AddsAt (ByOne N (which ∖ rest)) before table

pub adding_start : {N : ℕ → ℕ → ℕ → Type 0} {which : ℕ} {table : List ℕ} → Adding N which which table table
adding_start {which = which} = record { within = subset_refl; done = adds_none (λ i q k. none_done which k.numbered) }

pub adding_next : {N : ℕ → ℕ → ℕ → Type 0} {which rest rest' r : ℕ} {before table after : List ℕ} → Adding N which rest before table
    → Lowest rest r → rest' ≡ rest ∖ atom r → AddsAt (N r) table after → Adding N which rest' before after
adding_next {N} {which} {rest} {r = r} k low e a = record {
  within = taken_within k.within low e;
  done = rw e (adds_iff into from (adds_trans k.done a));
}
  where
    later : {i : ℕ} → Has (which ∖ rest) i → Has (which ∖ (rest ∖ atom r)) i
    later h = has_without which (rest ∖ atom r) (without_left which rest h) (λ p. without_right which rest h (without_left rest (atom r) p))

    here : Has (which ∖ (rest ∖ atom r)) r
    here = has_without which (rest ∖ atom r) (taken_lent k.within low) (λ p. without_right rest (atom r) p (has_atom r))

    into : (i q : ℕ) → ByOne N (which ∖ rest) i q ⊎ N r i q → ByOne N (which ∖ (rest ∖ atom r)) i q
    into i q (inl b) = record { number = b.number; numbered = later b.numbered; adds = b.adds }
    into i q (inr n) = record { number = r; numbered = here; adds = n }

    from : (i q : ℕ) → ByOne N (which ∖ (rest ∖ atom r)) i q → ByOne N (which ∖ rest) i q ⊎ N r i q
    from i q b = go (done_cases which rest r b.numbered)
      where
        go : Has (which ∖ rest) b.number ⊎ (r ≡ b.number) → ByOne N (which ∖ rest) i q ⊎ N r i q
        go (inl h) = inl (record { number = b.number; numbered = h; adds = b.adds })
        go (inr f) = inr (subst (λ (x : ℕ). N x i q) (sym f) b.adds)

pub adding_end : {N : ℕ → ℕ → ℕ → Type 0} {which rest : ℕ} {before table : List ℕ} → Adding N which rest before table → rest ≡ 0
    → AddsAt (ByOne N which) before table
adding_end {which = which} {rest} k e =
    adds_iff (λ i q b. record { number = b.number; numbered = without_left which rest b.numbered; adds = b.adds })
    (λ i q b. record { number = b.number; numbered = all_done which rest e b.numbered; adds = b.adds })
    k.done

-- ---- one word at a place, and at the places of all atoms of a set

pub record IsAt (base word a i q : ℕ) : Type 0 where
  pub place : i ≡ base + a
  pub in_word : Has word q

pub word_added : (base word a : ℕ) (table : List ℕ) {v : ℕ} → base + a < length table → v ≡ get_or table (base + a) 0 ∪ word
    → AddsAt (IsAt base word a) table (set table (base + a) v)
word_added base word a table {v} l e = record {
  same_length = length-set table (base + a) v;
  grown = λ i. record { each = λ q h. more i q h (ℕ_discrete i (base + a)) };
  added = λ i q k. rw (k.place, here) (has_right (get_or table (base + a) 0) word k.in_word);
  no_more = λ i q h. less i q (ℕ_discrete i (base + a)) h;
}
  where
    here : get_or (set table (base + a) v) (base + a) 0 ≡ get_or table (base + a) 0 ∪ word
    here = get_or-set_same table (base + a) v 0 l ∙ e

    more : (i q : ℕ) → Has (get_or table i 0) q → Dec (i ≡ base + a) → Has (get_or (set table (base + a) v) i 0) q
    more i q h (yes p) = rw (p, here) (has_left (get_or table (base + a) 0) word (rw p at h))
    more i q h (no n) = rw (get_or-set_other table (base + a) i v 0 n) h

    less : (i q : ℕ) → Dec (i ≡ base + a) → Has (get_or (set table (base + a) v) i 0) q → Has (get_or table i 0) q ⊎ IsAt base word a i q
    less i q (no n) h = inl (rw (get_or-set_other table (base + a) i v 0 n) at h)
    less i q (yes p) h = go (union_cases (get_or table (base + a) 0) word (rw (p, here) at h))
      where
        go : Has (get_or table (base + a) 0) q ⊎ Has word q → Has (get_or table i 0) q ⊎ IsAt base word a i q
        go (inl k) = inl (rw p k)
        go (inr k) = inr (record { place = p; in_word = k })

pub marked_end : {base which word rest : ℕ} {before table : List ℕ} → Adding (IsAt base word) which rest before table → rest ≡ 0
    → Marked base which word before table
marked_end k e =
    adds_iff (λ i q b. record { atom = b.number; in_set = b.numbered; place = b.adds.place; in_word = b.adds.in_word })
    (λ i q b. record { number = b.atom; numbered = b.in_set; adds = record { place = b.place; in_word = b.in_word } })
    (adding_end k e)
