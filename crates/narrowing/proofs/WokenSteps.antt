-- The steps that a rule has woken: the four parts of the table.
use Rattle.narrowing.proofs.Prelude.{◌≡◌, List, ◌⊎◌, inl, inr, ℕ, ◌∪◌, ◌∖◌, atom, lent, negative, looks, AddsAt, NotedAt, RULES_UP, RULES_DOWN}
use Rattle.narrowing.proofs.Prelude.{SUPPORTS_UP, SUPPORTS_DOWN, holds_up_of, fails_up, Wakes, rule_up, support_down, rule_down, support_up}
use Rattle.narrowing.proofs.MarkedTables.{adds_iff, adds_trans}

pub rule_wakes : (rules : List ℕ) (r : ℕ) {head negatives seen either positives holds wide fails this : ℕ} {before table after : List ℕ}
    → head ≡ (lent rules).head r → negatives ≡ negative rules r → seen ≡ looks rules r → either ≡ seen ∖ negatives → positives ≡ (lent rules).positive r
    → holds ≡ positives ∪ either → wide ≡ head ∪ negatives → fails ≡ wide ∪ either → this ≡ atom r
    → AddsAt (λ i q. NotedAt RULES_UP holds this i q ⊎ NotedAt SUPPORTS_DOWN holds head i q) before table
    → AddsAt (λ i q. NotedAt RULES_DOWN fails this i q ⊎ NotedAt SUPPORTS_UP fails head i q) table after → AddsAt (Wakes rules r) before after
rule_wakes rules r {head} {holds = holds} {fails = fails} {this = this} e n l x p c w d t a b = adds_iff into from (adds_trans a b)
  where
    h : holds ≡ holds_up_of rules r
    h = rw (c, p, x, l, n)

    f : fails ≡ fails_up rules r
    f = rw (d, w, x, l, e, n)

    into : (i q : ℕ) → (NotedAt RULES_UP holds this i q ⊎ NotedAt SUPPORTS_DOWN holds head i q)
        ⊎ (NotedAt RULES_DOWN fails this i q ⊎ NotedAt SUPPORTS_UP fails head i q) → Wakes rules r i q
    into i q (inl (inl k)) = rule_up (rw (h, t) at k)
    into i q (inl (inr k)) = support_down (rw (h, e) at k)
    into i q (inr (inl k)) = rule_down (rw (f, t) at k)
    into i q (inr (inr k)) = support_up (rw (f, e) at k)

    from : (i q : ℕ) → Wakes rules r i q → (NotedAt RULES_UP holds this i q ⊎ NotedAt SUPPORTS_DOWN holds head i q)
        ⊎ (NotedAt RULES_DOWN fails this i q ⊎ NotedAt SUPPORTS_UP fails head i q)
    from i q (rule_up k) = inl (inl (rw (h, t) k))
    from i q (support_down k) = inl (inr (rw (h, e) k))
    from i q (rule_down k) = inr (inl (rw (f, t) k))
    from i q (support_up k) = inr (inr (rw (f, e) k))
