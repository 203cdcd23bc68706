-- The next answer set: there is just one result that follows, the definition computes it, and so does what was found.
use Rattle.stepping.proofs.Prelude.{◌≡◌, refl, ap, Bool, true, false, inl, inr, List, ℕ, suc, ◌≤◌, ◌<◌, arith, ltb, ltb-true, ltb-false, lt-ltb, Has}
use Rattle.stepping.proofs.Prelude.{◌⊆◌, below, decides, decided_true, not_both, has_left, has_right, has_below, subset_le, lent, Fitting, Plan, Fault}
use Rattle.stepping.proofs.Prelude.{Accepted, Refused as RefusedWith, reading, accepted, record_fits, Settles, settled, Headed, settled_headed}
use Rattle.stepping.proofs.Prelude.{decides_settled, asked_refused, asked_accepted, accepted_answered, read_fits, Some, None, LeastOf, least}
use Rattle.stepping.proofs.Prelude.{none, Behind, from_start, above, Option, Follows, position, none_left, may_be_up, behind, settled_behind}
use Rattle.stepping.proofs.Prelude.{next_in, followed, Followed, Result, Ok, Err}
use Rattle.atoms.specs.Bounded.{Decides, union_in}
use Rattle.atoms.specs.Collected.{lowest}
use Rattle.atoms.proofs.Bounded.{union_has}
use Rattle.finding.proofs.Leasts.{lowest_met, lowest_missed}

-- ---- one result follows

pub follows_only : {p : Plan} {from : Option ℕ} {a b : Result (Option ℕ) Fault} → Follows p from a → Follows p from b → a ≡ b
follows_only (position {M = M} s b l) (position {M = N} t c k) = ap (λ (M : ℕ). Ok (Some M)) (same (l N t c) (k M s b))
  where
    same : {x y : ℕ} → x ≤ y → y ≤ x → x ≡ y
    same h g = omega arith
follows_only (position {M = M} s b l) (none_left n) = absurd (n M s b)
follows_only (none_left n) (position {M = M} s b l) = absurd (n M s b)
follows_only (none_left n) (none_left m) = refl

-- what was found follows
pub found_follows : {p : Plan} {from : Option ℕ} {M : ℕ} → LeastOf (λ N. Settles p N × Behind from N) (Some M) → Follows p from (Ok (Some M))
found_follows (least q l) = position q.0 q.1 (λ N s b. l N (s, b))

pub none_follows : {p : Plan} {from : Option ℕ} → LeastOf (λ N. Settles p N × Behind from N) None → Follows p from (Ok None)
none_follows (none n) = none_left (λ N s b. n N (s, b))

pub least_follows : {p : Plan} {from w : Option ℕ} → LeastOf (λ N. Settles p N × Behind from N) w → Follows p from (Ok w)
least_follows (least q l) = found_follows (least q l)
least_follows (none n) = none_follows (none n)

-- ---- the definition computes it

-- an answer set has only atoms that are given or in heads
pub settled_within : (p : Plan) (M : ℕ) → Settles p M → M ⊆ may_be_up p
settled_within p M s = record { each = λ i h. go i (settled_headed p M i s h) }
  where
    heads : ℕ → ℕ
    heads r = (lent p.rules).head r

    go : (i : ℕ) → Headed p i → Has (may_be_up p) i
    go i (inl h) = has_left p.once.given.word (union_in p.rule_count (below p.rule_count) heads) h
    go i (inr t) =
        has_right p.once.given.word (union_in p.rule_count (below p.rule_count) heads)
        (union_has p.rule_count (below p.rule_count) heads t.0 i t.1 (has_below p.rule_count t.0 t.1) t.2)

pub may_be_up_lem : (p : Plan) (M : ℕ) → Settles p M → M < suc (may_be_up p)
may_be_up_lem p M s = omega (arith, subset_le (settled_within p M s))

behind_decided : (from : Option ℕ) (M : ℕ) → Decides (Behind from M) (behind from M)
behind_decided None M = decides true (λ _. from_start) (λ _. refl)
behind_decided (Some p) M = decides (ltb p M) (λ e. above (ltb-true p M e)) back
  where
    back : Behind (Some p) M → ltb p M ≡ true
    back (above l) = lt-ltb p M l

module _ (p : Plan) (fits : Fitting p) (from : Option ℕ) where
  settled_behind_lem : (M : ℕ) → Decides (Settles p M × Behind from M) (settled_behind p from M)
  settled_behind_lem M = go (behind from M) (behind_decided from M)
    where
      go : (b : Bool) → Decides (Behind from M) b → Decides (Settles p M × Behind from M) (elim b [ true ↦ settled p M | false ↦ false ])
      go true d = decides (settled p M) (λ e. ((decides_settled p M fits).yes e, d.yes refl)) (λ q. decided_true (decides_settled p M fits) q.0)
      go false d = decides false (λ e. absurd (not_both e refl)) (λ q. absurd (d.no refl q.1))

  pub next_in_follows : Follows p from (Ok (next_in p from))
  unfolding next_in
  next_in_follows = go (ltb M top) refl
    where
      top : ℕ
      top = suc (may_be_up p)

      M : ℕ
      M = lowest top (settled_behind p from)

      go : (b : Bool) → ltb M top ≡ b → Follows p from (Ok (elim b [ true ↦ Some M | false ↦ None ]))
      go true e = found_follows (lowest_met (settled_behind p from) top settled_behind_lem (ltb-true M top e))
      go false e =
          none_follows (lowest_missed (settled_behind p from) top settled_behind_lem (ltb-false M top e) (λ N q. may_be_up_lem p N q.0))

-- ---- for the bytes of a plan

pub followed_refused : (bytes : List ℕ) (from : Option ℕ) (f : Fault) → (reading bytes).outcome ≡ RefusedWith f → followed bytes from ≡ Err f
followed_refused bytes from = asked_refused Err (λ p. Ok (next_in p from)) bytes

pub followed_follows : (bytes : List ℕ) (from : Option ℕ) → (reading bytes).outcome ≡ Accepted → Follows (reading bytes).plan from (followed bytes from)
followed_follows bytes from e =
    rw (asked_accepted Err (λ p. Ok (next_in p from)) bytes e) (next_in_follows (reading bytes).plan (record_fits bytes) from)

-- ---- the results of the code, from what reading gave

pub found_followed : (bytes : List ℕ) (from : Option ℕ) {p : Plan} {w : Option ℕ} → accepted p ≡ reading bytes
    → LeastOf (λ N. Settles p N × Behind from N) w → Followed bytes from (Ok w)
found_followed bytes from {p} {w} read found =
    let k : Follows p from (Ok w) = least_follows found in
    accepted_answered bytes read refl (follows_only k (next_in_follows p (read_fits bytes read) from)) k
