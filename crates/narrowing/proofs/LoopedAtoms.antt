-- Atoms that hold each other up: what one rule adds, what all rules add, and the largest such set, which is come to from all atoms down.
use Rattle.narrowing.proofs.Prelude.{◌≡◌, sym, subst, ◌∙◌, Bool, true, false, List, ◌⊎◌, inl, inr, ℕ, ◌^◌, ◌<◌, ATOMS, Has, ◌⊆◌, apart, ◌∩◌, ◌∪◌, ◌∖◌}
use Rattle.narrowing.proofs.Prelude.{atom, below, Lowest, has_lt, has_below, has_none, has_atom, has_left, has_right, has_cut, cut_left, cut_right}
use Rattle.narrowing.proofs.Prelude.{union_cases, subset_refl, has_without, without_left, without_right, decides_apart, shared_atom, apart_of_cut}
use Rattle.narrowing.proofs.Prelude.{taken_within, none_done, all_done, done_cases, taken_lent, lent, HeldBy, HeldOn, HoldsUp, Looped, HeldMore}
use Rattle.narrowing.proofs.Prelude.{HeldAmong}

-- ---- one rule

module _ {rules : List ℕ} {r within before : ℕ} {positive : ℕ} {b : Bool} (reads : positive ≡ (lent rules).positive r)
    (tested : b ≡ apart positive within) where
  -- no positive atom is among them
  pub none_held : b ≡ true → HeldMore rules r within before before
  none_held e = record {
    kept = subset_refl;
    added = λ a h k. absurd (((decides_apart positive within).yes (sym tested ∙ e)).none k.atom (rw reads k.positive) k.among);
    no_more = λ a h. inl h;
  }

  -- one is
  pub head_held : {head some after : ℕ} → b ≡ false → head ≡ (lent rules).head r → some ≡ within ∩ head → after ≡ before ∪ some
      → HeldMore rules r within before after
  head_held {head} {some} {after} e h s u = record {
    kept = record { each = λ a p. rw u (has_left before some p) };
    added = λ a p k. rw u (has_right before some (rw s (has_cut within head p (rw h k.in_head))));
    no_more = λ a p. go a (union_cases before some (rw u at p));
  }
    where
      shared : (i : ℕ) × Has positive i × Has within i
      shared = shared_atom positive within (λ z. (decides_apart positive within).no (sym tested ∙ e) (apart_of_cut positive within z))

      go : (a : ℕ) → Has before a ⊎ Has some a → Has before a ⊎ (Has within a × HeldBy rules r within a)
      go a (inl p) = inl p
      go a (inr p) =
          let q : Has (within ∩ head) a = rw s at p in
          inr (
            cut_left within head q,
            record {
              in_head = rw h at (cut_right within head q);
              atom = shared.0;
              positive = subst (λ (w : ℕ). Has w shared.0) reads shared.1;
              among = shared.2;
            },
          )

-- ---- the rules one by one; those of `rest` are still to come

pub record Holding (rules : List ℕ) (which within rest held : ℕ) : Type 0 where
  pub part : rest ⊆ which
  pub done : HeldAmong rules (which ∖ rest) within held

pub holding_start : {rules : List ℕ} {which within : ℕ} → Holding rules which within which 0
holding_start {which = which} = record {
  part = subset_refl;
  done = record { each = λ a h. absurd (has_none h); all = λ a k. absurd (none_done which k.1.numbered) };
}

pub holding_next : {rules : List ℕ} {which within rest rest' held held' r : ℕ} → Holding rules which within rest held → Lowest rest r
    → rest' ≡ rest ∖ atom r → HeldMore rules r within held held' → Holding rules which within rest' held'
holding_next {rules} {which} {within} {rest} {rest'} {held} {held'} {r} k low e m = record {
  part = taken_within k.part low e;
  done = rw e (record { each = λ a h. into a (m.no_more a h); all = λ a h. from a h.0 h.1 });
}
  where
    later : {i : ℕ} → Has (which ∖ rest) i → Has (which ∖ (rest ∖ atom r)) i
    later {i} h =
        has_without which (rest ∖ atom r) (without_left which rest h) (λ p. without_right which rest h (without_left rest (atom r) p))

    into : (a : ℕ) → Has held a ⊎ (Has within a × HeldBy rules r within a) → Has within a × HeldOn rules (which ∖ (rest ∖ atom r)) within a
    into a (inl h) =
        let d = k.done.each a h in
        (d.0, record { rule = d.1.rule; numbered = later d.1.numbered; by = d.1.by })
    into a (inr h) = (
      h.0,
      record {
        rule = r;
        numbered = has_without which (rest ∖ atom r) (taken_lent k.part low) (λ p. without_right rest (atom r) p (has_atom r));
        by = h.1;
      },
    )

    from : (a : ℕ) → Has within a → HeldOn rules (which ∖ (rest ∖ atom r)) within a → Has held' a
    from a w h = go (done_cases which rest r h.numbered)
      where
        go : Has (which ∖ rest) h.rule ⊎ (r ≡ h.rule) → Has held' a
        go (inl p) = m.kept.each a (k.done.all a (w, record { rule = h.rule; numbered = p; by = h.by }))
        go (inr q) = m.added a w (subst (λ (i : ℕ). HeldBy rules i within a) (sym q) h.by)

pub holding_end : {rules : List ℕ} {which within rest held : ℕ} → Holding rules which within rest held → rest ≡ 0
    → HeldAmong rules which within held
holding_end {which = which} {rest = rest} k e = record {
  each = λ a h.
      let d = k.done.each a h in
      (d.0, record { rule = d.1.rule; numbered = without_left which rest d.1.numbered; by = d.1.by });
  all = λ a h.
      k.done.all a (h.0, record { rule = h.1.rule; numbered = all_done which rest e h.1.numbered; by = h.1.by });
}

-- ---- all rules again and again

-- every set that holds itself up is within
pub record Above (rules : List ℕ) (which within : ℕ) : Type 0 where
  pub each : (set : ℕ) → set < 2 ^ ATOMS → HoldsUp rules which set → set ⊆ within

pub above_all : {rules : List ℕ} {which within : ℕ} → within ≡ below ATOMS → Above rules which within
above_all e = record { each = λ set l k. record { each = λ a h. rw e (has_below ATOMS a (has_lt set ATOMS l h)) } }

pub above_next : {rules : List ℕ} {which within held : ℕ} → HeldAmong rules which within held → Above rules which within
    → Above rules which held
above_next {rules} {which} {within} m k = record {
  each = λ set l u. record { each = λ a h. m.all a ((k.each set l u).each a h, larger set (k.each set l u) (u.held a h)) };
}
  where
    larger : (set : ℕ) → set ⊆ within → {a : ℕ} → HeldOn rules which set a → HeldOn rules which within a
    larger set f h = record {
      rule = h.rule;
      numbered = h.numbered;
      by = record { in_head = h.by.in_head; atom = h.by.atom; positive = h.by.positive; among = f.each h.by.atom h.by.among };
    }

pub held_within : {rules : List ℕ} {which within held : ℕ} → HeldAmong rules which within held → held ⊆ within
held_within m = record { each = λ a h. (m.each a h).0 }

pub looped_end : {rules : List ℕ} {which within held : ℕ} → HeldAmong rules which within held → Above rules which within → held ≡ within
    → Looped rules which within
looped_end m k e = record {
  holds_up = record { held = λ a h. (m.each a (rw e h)).1 };
  largest = k.each;
}
