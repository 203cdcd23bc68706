-- What a loop gathers over the numbers of a word, which it takes one by one, the lowest first: the union of their words, or
-- those of which a test holds. What is gathered and what the rest would add make the whole.
use Rattle.atoms.proofs.Prelude.{◌≡◌, refl, sym, ap, ◌∙◌, subst, Bool, true, false, ◌&&◌, ℕ, suc, ◌<◌, Has, has, ◌∩◌, ◌∪◌, ◌∖◌, atom, below, Lowest}
use Rattle.atoms.proofs.Prelude.{union_in, word_below, single_if}
use Rattle.atoms.proofs.Tests.{and-true, decided_true}
use Rattle.atoms.proofs.Sets.{decides_has, cut_right, without_left, below_lt, ext, union_none_left, union_none_right, union_assoc}
use Rattle.atoms.proofs.Bounded.{union_has, union_at, word_has, word_at, union_in_none, union_in_cut, union_in_take}
use Rattle.atoms.proofs.Singles.{single_if_has, single_if_at}

-- ---- the union of the words f i, for the numbers i of `which` below n

pub record Gathers (n : ℕ) (f : ℕ → ℕ) (which all rest : ℕ) : Type 0 where
  pub same : all ∪ union_in n rest f ≡ union_in n which f
  pub bounded : (i : ℕ) → Has rest i → i < n

pub gathers_start : {n : ℕ} {f : ℕ → ℕ} {which first rest : ℕ} → first ≡ below n → rest ≡ which ∩ first
    → Gathers n f which 0 rest
gathers_start {n} {f} {which} {first} {rest} p q = record {
  same = union_none_left (union_in n rest f) ∙ ap (λ (w : ℕ). union_in n w f) e ∙ union_in_cut n which f;
  bounded = λ i h. below_lt n (cut_right which (below n) (subst (λ (w : ℕ). Has w i) e h));
}
  where
    e : rest ≡ which ∩ below n
    e = q ∙ ap (λ (w : ℕ). which ∩ w) p

-- where the word was read
pub gathers_read : {n : ℕ} {f : ℕ → ℕ} {which read first rest : ℕ} → read ≡ which → first ≡ below n → rest ≡ read ∩ first → Gathers n f which 0 rest
gathers_read {first = first} e p q = gathers_start p (q ∙ ap (λ (w : ℕ). w ∩ first) e)

-- the number taken is below n
pub gathers_lt : {n : ℕ} {f : ℕ → ℕ} {which all rest i : ℕ} → Gathers n f which all rest → Lowest rest i → i < n
gathers_lt {i = i} g low = g.bounded i low.here

pub gathers_next : {n : ℕ} {f : ℕ → ℕ} {which all rest i rest' x all' : ℕ} → Gathers n f which all rest → Lowest rest i
    → rest' ≡ rest ∖ atom i → x ≡ f i → all' ≡ all ∪ x → Gathers n f which all' rest'
gathers_next {n} {f} {which} {all} {rest} {i} {rest'} g low e v d = record {
  same =
      ap (λ (w : ℕ). w ∪ union_in n rest' f) (d ∙ ap (λ (y : ℕ). all ∪ y) v)
      ∙ ap (λ (w : ℕ). (all ∪ f i) ∪ union_in n w f) e
      ∙ union_assoc all (f i) (union_in n (rest ∖ atom i) f)
      ∙ ap (λ (w : ℕ). all ∪ w) (sym (union_in_take n rest f i (gathers_lt g low) low.here))
      ∙ g.same;
  bounded = λ j h. g.bounded j (without_left rest (atom i) (subst (λ (w : ℕ). Has w j) e h));
}

pub gathers_end : {n : ℕ} {f : ℕ → ℕ} {which all rest : ℕ} → Gathers n f which all rest → rest ≡ 0 → all ≡ union_in n which f
gathers_end {n} {f} {which} {all} {rest} g e =
    sym (ap (λ (w : ℕ). all ∪ w) (ap (λ (w : ℕ). union_in n w f) e ∙ union_in_none n f) ∙ union_none_right all) ∙ g.same

-- ---- the numbers of which the test p holds

pub record Picks (n : ℕ) (p : ℕ → Bool) (which found rest : ℕ) : Type 0 where
  pub gathered : Gathers n (λ i. single_if (p i) i) which found rest

pub picks_start : {n : ℕ} {p : ℕ → Bool} {which first rest : ℕ} → first ≡ below n → rest ≡ which ∩ first
    → Picks n p which 0 rest
picks_start e d = record { gathered = gathers_start e d }

pub picks_lt : {n : ℕ} {p : ℕ → Bool} {which found rest i : ℕ} → Picks n p which found rest → Lowest rest i → i < n
picks_lt g low = gathers_lt g.gathered low

pub picks_next : {n : ℕ} {p : ℕ → Bool} {which found rest i rest' x found' : ℕ} {b : Bool} → Picks n p which found rest
    → Lowest rest i → rest' ≡ rest ∖ atom i → b ≡ p i → x ≡ single_if b i → found' ≡ found ∪ x → Picks n p which found' rest'
picks_next {i = i} g low e t v u = record {
  gathered = gathers_next g.gathered low e (v ∙ ap (λ (y : Bool). single_if y i) t) u;
}

pub word_in : (n w : ℕ) (p : ℕ → Bool) → union_in n w (λ s. single_if (p s) s) ≡ word_below n (λ s. has w s && p s)
word_in n w p =
    ext (union_in n w (λ s. single_if (p s) s)) (word_below n (λ s. has w s && p s)) into from
  where
    into : (a : ℕ) → Has (union_in n w (λ s. single_if (p s) s)) a → Has (word_below n (λ s. has w s && p s)) a
    into a h =
        let s = union_at n w (λ i. single_if (p i) i) a h in
        let t = single_if_at (p s.0) s.0 s.3 in
        let both = (and-true (has w s.0) (p s.0)).1 (decided_true (decides_has w s.0) s.2, t.0) in
        subst (λ (x : ℕ). Has (word_below n (λ i. has w i && p i)) x) t.1 (word_has n (λ i. has w i && p i) s.0 s.1 both)

    from : (a : ℕ) → Has (word_below n (λ s. has w s && p s)) a → Has (union_in n w (λ s. single_if (p s) s)) a
    from a h =
        let s = word_at n (λ i. has w i && p i) a h in
        let t = (and-true (has w a) (p a)).0 s.1 in
        union_has n w (λ i. single_if (p i) i) a a s.0 ((decides_has w a).yes t.0) (single_if_has (p a) a t.1)

pub picks_end : {n : ℕ} {p : ℕ → Bool} {which found rest : ℕ} → Picks n p which found rest → rest ≡ 0
    → found ≡ word_below n (λ i. has which i && p i)
picks_end {n} {p} {which} g e = gathers_end g.gathered e ∙ word_in n which p

-- one number more
pub word_suc : (n : ℕ) (p : ℕ → Bool) → word_below n p ∪ single_if (p n) n ≡ word_below (suc n) p
unfolding word_below single_if
word_suc n p = go (p n)
  where
    go : (b : Bool) → word_below n p ∪ (elim b [ true ↦ atom n | false ↦ 0 ])
        ≡ (elim b [ true ↦ word_below n p ∪ atom n | false ↦ word_below n p ])
    go true = refl
    go false = union_none_right (word_below n p)
