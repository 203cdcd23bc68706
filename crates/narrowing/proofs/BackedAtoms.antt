-- The table of the rules that may back an atom: one rule more is noted at each turn.
use Rattle.narrowing.proofs.Prelude.{◌≡◌, refl, sym, subst, ◌∙◌, ◌⊎◌, inl, inr, List, ℕ, zero, suc, zero-add, length, get_or, replicate, ATOMS, Has, ◌∪◌}
use Rattle.narrowing.proofs.Prelude.{◌∖◌, atom, Lowest, has_none, has_atom, atom_only, has_without, without_left, without_right, has_left, has_right}
use Rattle.narrowing.proofs.Prelude.{union_cases, Taking, taking_start, taking_next, taking_end, taken_lent, lent, negative, NotedAt, Marked, Backs}
use Rattle.narrowing.proofs.Prelude.{RuleBacks, RulesBack, Backers}

-- one rule
pub rule_backs : (rules : List ℕ) (r : ℕ) {head positives negatives body which word : ℕ} {before after : List ℕ} → head ≡ (lent rules).head r
    → positives ≡ (lent rules).positive r → negatives ≡ negative rules r → body ≡ positives ∪ negatives → which ≡ head ∖ body → word ≡ atom r
    → Marked 0 which word before after → RuleBacks rules r before after
rule_backs rules r {which = which} {word} {before} {after} h p n b w f m = record {
  same_length = m.same_length;
  noted = λ a b. m.added a r (record { atom = a; in_set = rw e (backed a b); place = sym (zero-add a); in_word = rw f (has_atom r) });
  grown = m.grown;
  no_more = λ a q h. go a q (m.no_more a q h);
}
  where
    e : which ≡ (lent rules).head r ∖ ((lent rules).positive r ∪ negative rules r)
    e = rw (w, b, h, p, n)

    backed : (a : ℕ) → Backs rules r a → Has ((lent rules).head r ∖ ((lent rules).positive r ∪ negative rules r)) a
    backed a b =
        has_without ((lent rules).head r) ((lent rules).positive r ∪ negative rules r) b.in_head
        (λ h. body (union_cases ((lent rules).positive r) (negative rules r) h))
      where
        body : Has ((lent rules).positive r) a ⊎ Has (negative rules r) a → ⊥
        body (inl p) = b.not_positive p
        body (inr p) = b.not_negative p

    backs : (a : ℕ) → Has ((lent rules).head r ∖ ((lent rules).positive r ∪ negative rules r)) a → Backs rules r a
    backs a h =
        let out = without_right ((lent rules).head r) ((lent rules).positive r ∪ negative rules r) h in
        record {
          in_head = without_left ((lent rules).head r) ((lent rules).positive r ∪ negative rules r) h;
          not_positive = λ p. out (has_left ((lent rules).positive r) (negative rules r) p);
          not_negative = λ p. out (has_right ((lent rules).positive r) (negative rules r) p);
        }

    go : (a q : ℕ) → Has (get_or before a 0) q ⊎ NotedAt 0 which word a q → Has (get_or before a 0) q ⊎ ((r ≡ q) × Backs rules r a)
    go a q (inl h) = inl h
    go a q (inr k) =
        inr (atom_only r (rw f at k.in_word), subst (Backs rules r) (sym (k.place ∙ zero-add k.atom)) (backs k.atom (rw e at k.in_set)))

-- all rules: those that are done are noted, and no others than numbered ones
pub record Backing (rules : List ℕ) (which rest : ℕ) (before table : List ℕ) : Type 0 where
  pub same_length : length table ≡ length before
  pub noted : Taking which rest (λ r. (a : ℕ) → Backs rules r a → Has (get_or table a 0) r)
  pub no_more : (a q : ℕ) → Has (get_or table a 0) q → Has (get_or before a 0) q ⊎ (Has which q × Backs rules q a)

pub backing_start : {rules : List ℕ} {which : ℕ} {table : List ℕ} → Backing rules which which table table
backing_start = record { same_length = refl; noted = taking_start; no_more = λ a q h. inl h }

pub backing_next : {rules : List ℕ} {which rest rest' r : ℕ} {before table after : List ℕ} → Backing rules which rest before table
    → Lowest rest r → rest' ≡ rest ∖ atom r → RuleBacks rules r table after → Backing rules which rest' before after
backing_next {rules} {which} {r = r} {before} {table} b low e n = record {
  same_length = n.same_length ∙ b.same_length;
  noted = taking_next b.noted low e (λ q f a c. (n.grown a).each q (f a c)) n.noted;
  no_more = λ a q k. less a q (n.no_more a q k);
}
  where
    less : (a q : ℕ) → Has (get_or table a 0) q ⊎ ((r ≡ q) × Backs rules r a) → Has (get_or before a 0) q ⊎ (Has which q × Backs rules q a)
    less a q (inl k) = b.no_more a q k
    less a q (inr k) =
        inr (subst (λ (x : ℕ). Has which x × Backs rules x a) k.0 (taken_lent b.noted.within low, k.1))

pub backing_end : {rules : List ℕ} {which rest : ℕ} {before table : List ℕ} → Backing rules which rest before table → rest ≡ 0
    → RulesBack rules which before table
backing_end b e = record {
  same_length = b.same_length;
  noted = λ r a h. taking_end b.noted e r h a;
  no_more = b.no_more;
}

-- a table of zeros has no rule
pub zeros_at : (n a : ℕ) → get_or (replicate {A = ℕ} n 0) a 0 ≡ 0
zeros_at zero a = refl
zeros_at (suc n) zero = refl
zeros_at (suc n) (suc a) = zeros_at n a

-- a table that had no rule at first
pub backers_of_lem : {rules : List ℕ} {which : ℕ} {before table : List ℕ} → length before ≡ ATOMS → ((a : ℕ) → get_or before a 0 ≡ 0)
    → RulesBack rules which before table → Backers rules which table
backers_of_lem {rules} {which} {before} {table} l z b = record {
  long = b.same_length ∙ l;
  numbered = λ a. record { each = λ q h. (go a q (b.no_more a q h)).0 };
  every = λ r a h c. b.noted r a h c;
  no_more = λ q a h. (go a q (b.no_more a q h)).1;
}
  where
    go : (a q : ℕ) → Has (get_or before a 0) q ⊎ (Has which q × Backs rules q a) → Has which q × Backs rules q a
    go a q (inl h) = absurd (has_none (rw (z a) at h))
    go a q (inr h) = h
