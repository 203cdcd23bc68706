-- Words added rising behind a count: none, one, as many as there is room for, and the higher ones behind the lower ones.
use Rattle.finding.proofs.Prelude.{◌≡◌, refl, sym, ap, ◌∙◌, subst, ◌⊎◌, inl, inr, List, [], ◌++◌, List-as-Memᴰ, Memᴰ-not-nil, ℕ, ◌+◌, ◌-◌, ◌≤◌, ◌<◌}
use Rattle.finding.proofs.Prelude.{arith, dec_lt, length, get_or, set, take, drop, length-set, length-take, length-drop, take-append-drop, get_or-set_same}
use Rattle.finding.proofs.Prelude.{get_or-set_other, get_or-take, get_or-drop, ext_get_or, member_get_or, index_of, rising_by, Some, None, Behind, LeastOf}
use Rattle.finding.proofs.Prelude.{least, none as no-least, Leasts, Option, StandsAmong, Added, Sought}

-- nothing is to be added
pub added_none : {Q : ℕ → Type 0} {list : List ℕ} {count : ℕ} → count ≤ length list → ((N : ℕ) → ¬ Q N) → Added Q list count list count
added_none l n = record {
  long = refl;
  more = omega arith;
  room = l;
  each = λ i a b. absurd (omega arith);
  rises = λ i j a b c. absurd (omega arith);
  all = λ N q. absurd (n N q);
  others = λ i o. refl;
}

-- there is no room
pub added_full : {Q : ℕ → Type 0} {list : List ℕ} {count : ℕ} → count ≤ length list → length list ≤ count → Added Q list count list count
added_full l k = record {
  long = refl;
  more = omega arith;
  room = l;
  each = λ i a b. absurd (omega arith);
  rises = λ i j a b c. absurd (omega arith);
  all = λ N q. inr (omega arith, λ i a b. absurd (omega arith));
  others = λ i o. refl;
}

-- the one there is
pub added_one : {Q : ℕ → Type 0} (list : List ℕ) (count m : ℕ) → count < length list → Q m → ((N : ℕ) → Q N → N ≡ m)
    → Added Q list count (set list count m) (count + 1)
added_one {Q} list count m l q only = record {
  long = length-set list count m;
  more = omega arith;
  room = omega arith;
  each = λ i a b. let e : i ≡ count = omega arith in subst (λ (j : ℕ). Q (get_or (set list count m) j 0)) (sym e) (subst Q (sym here) q);
  rises = λ i j a b c. absurd (omega arith);
  all = λ N h. inl (record { place = count; from = omega arith; to = omega arith; is = here ∙ sym (only N h) });
  others = λ i o. get_or-set_other list count i m 0 (apart i o);
}
  where
    here : get_or (set list count m) count 0 ≡ m
    here = get_or-set_same list count m 0 l

    apart : (i : ℕ) → (i < count) ⊎ (count + 1 ≤ i) → ¬ (i ≡ count)
    apart i (inl a) e = omega arith
    apart i (inr a) e = omega arith

-- the same is added where the same has Q
pub added_iff : {Q R : ℕ → Type 0} {before after : List ℕ} {count r : ℕ} → ((M : ℕ) → Q M → R M) → ((M : ℕ) → R M → Q M)
    → Added Q before count after r → Added R before count after r
added_iff f g a = record {
  long = a.long;
  more = a.more;
  room = a.room;
  each = λ i l k. f _ (a.each i l k);
  rises = a.rises;
  all = λ N q. a.all N (g N q);
  others = a.others;
}

-- all with A are below all with B: first the ones, then the others
module _ {A B C : ℕ → Type 0} {list₀ list₁ list₂ : List ℕ} {count₀ count₁ count₂ : ℕ} (first : (M : ℕ) → A M → C M) (second : (M : ℕ) → B M → C M)
    (split : (M : ℕ) → C M → A M ⊎ B M) (lower : (M N : ℕ) → A M → B N → M < N)
    (a : Added A list₀ count₀ list₁ count₁) (b : Added B list₁ count₁ list₂ count₂) where
  -- what was written first stays
  stays : (i : ℕ) → i < count₁ → get_or list₂ i 0 ≡ get_or list₁ i 0
  stays i l = b.others i (inl l)

  low : (i : ℕ) → count₀ ≤ i → i < count₁ → A (get_or list₂ i 0)
  low i l k = subst A (sym (stays i k)) (a.each i l k)

  ends : count₂ ≤ length list₀
  ends = subst (λ (n : ℕ). count₂ ≤ n) a.long b.room

  both_each : (i : ℕ) → count₀ ≤ i → i < count₂ → C (get_or list₂ i 0)
  both_each i l k = go (dec_lt i count₁)
    where
      go : Dec (i < count₁) → C (get_or list₂ i 0)
      go (yes h) = first _ (low i l h)
      go (no h) = second _ (b.each i (omega arith) k)

  both_rises : (i j : ℕ) → count₀ ≤ i → i < j → j < count₂ → get_or list₂ i 0 < get_or list₂ j 0
  both_rises i j l m k = go (dec_lt i count₁) (dec_lt j count₁)
    where
      go : Dec (i < count₁) → Dec (j < count₁) → get_or list₂ i 0 < get_or list₂ j 0
      go (yes h) (yes g) = omega (arith, stays i h, stays j g, a.rises i j l m g)
      go (yes h) (no g) = lower _ _ (low i l h) (b.each j (omega arith) k)
      go (no h) (yes g) = absurd (omega arith)
      go (no h) (no g) = b.rises i j (omega arith) m k

  both_all : (N : ℕ) → C N → StandsAmong list₂ count₀ count₂ N ⊎ ((count₂ ≡ length list₀) × ((i : ℕ) → count₀ ≤ i → i < count₂ → get_or list₂ i 0 < N))
  both_all N c = go (split N c)
    where
      higher : B N → StandsAmong list₂ count₁ count₂ N ⊎ ((count₂ ≡ length list₁) × ((i : ℕ) → count₁ ≤ i → i < count₂ → get_or list₂ i 0 < N))
          → StandsAmong list₂ count₀ count₂ N ⊎ ((count₂ ≡ length list₀) × ((i : ℕ) → count₀ ≤ i → i < count₂ → get_or list₂ i 0 < N))
      higher q (inl s) = inl (record { place = s.place; from = omega (arith, s.from, a.more); to = s.to; is = s.is })
      higher q (inr o) = inr (o.0 ∙ a.long, λ i l k. go i l k (dec_lt i count₁))
        where
          go : (i : ℕ) → count₀ ≤ i → i < count₂ → Dec (i < count₁) → get_or list₂ i 0 < N
          go i l k (yes h) = lower _ _ (low i l h) q
          go i l k (no h) = o.1 i (omega arith) k

      deeper : StandsAmong list₁ count₀ count₁ N ⊎ ((count₁ ≡ length list₀) × ((i : ℕ) → count₀ ≤ i → i < count₁ → get_or list₁ i 0 < N))
          → StandsAmong list₂ count₀ count₂ N ⊎ ((count₂ ≡ length list₀) × ((i : ℕ) → count₀ ≤ i → i < count₂ → get_or list₂ i 0 < N))
      deeper (inl s) = inl (record { place = s.place; from = s.from; to = omega (arith, s.to, b.more); is = stays s.place s.to ∙ s.is })
      deeper (inr o) =
          let k : count₂ ≡ count₁ = omega (arith, o.0, b.more, ends) in
          inr (k ∙ o.0, λ i l m. subst (λ (x : ℕ). x < N) (sym (stays i (omega arith))) (o.1 i l (omega arith)))

      go : A N ⊎ B N → StandsAmong list₂ count₀ count₂ N ⊎ ((count₂ ≡ length list₀) × ((i : ℕ) → count₀ ≤ i → i < count₂ → get_or list₂ i 0 < N))
      go (inl q) = deeper (a.all N q)
      go (inr q) = higher q (b.all N q)

  both_others : (i : ℕ) → (i < count₀) ⊎ (count₂ ≤ i) → get_or list₂ i 0 ≡ get_or list₀ i 0
  both_others i (inl l) = stays i (omega (arith, a.more)) ∙ a.others i (inl l)
  both_others i (inr l) = b.others i (inr l) ∙ a.others i (inr (omega (arith, b.more)))

  pub added_both : Added C list₀ count₀ list₂ count₂
  added_both = record {
    long = b.long ∙ a.long;
    more = omega (arith, a.more, b.more);
    room = ends;
    each = both_each;
    rises = both_rises;
    all = both_all;
    others = both_others;
  }

-- ---- one word

module _ {Q : ℕ → Type 0} {before after : List ℕ} {r : ℕ} (a : Added Q before 0 after r) (one : length before ≡ 1) where
  pub one_none : r ≡ 0 → LeastOf Q None
  one_none z = no-least (λ N q. go N (a.all N q))
    where
      go : (N : ℕ) → StandsAmong after 0 r N ⊎ ((r ≡ length before) × ((i : ℕ) → 0 ≤ i → i < r → get_or after i 0 < N)) → ⊥
      go N (inl s) = omega (arith, s.to)
      go N (inr o) = omega (arith, o.0)

  pub one_least : ¬ (r ≡ 0) → LeastOf Q (Some (get_or after 0 0))
  one_least n = least (a.each 0 (omega arith) (omega arith)) (λ N q. go N (a.all N q))
    where
      go : (N : ℕ) → StandsAmong after 0 r N ⊎ ((r ≡ length before) × ((i : ℕ) → 0 ≤ i → i < r → get_or after i 0 < N)) → get_or after 0 0 ≤ N
      go N (inl s) =
          let z : s.place ≡ 0 = omega (arith, s.to, a.room) in
          let e : get_or after 0 0 ≡ N = subst (λ (i : ℕ). get_or after i 0 ≡ N) z s.is in
          omega arith
      go N (inr o) = omega (arith, o.1 0 (omega arith) (omega arith))

-- nothing is passed over where there are no words
sought_any : {from : Option ℕ} {M : ℕ} → Behind from M → Sought from [] M
sought_any b = record { behind = b; new = λ m. Memᴰ-not-nil m }

pub added_behind : {Q : ℕ → Type 0} {from : Option ℕ} {before after : List ℕ} {r : ℕ} → Added (λ M. Q M × Sought from [] M) before 0 after r
    → Added (λ M. Q M × Behind from M) before 0 after r
added_behind a = added_iff (λ M q. (q.0, q.1.behind)) (λ M q. (q.0, sought_any q.1)) a

-- ---- the words as a list

module _ {Q : ℕ → Type 0} {before after : List ℕ} {r : ℕ} (a : Added Q before 0 after r) where
  pub written_long : length (take r after) ≡ r
  written_long = length-take r after ∙ (omega (arith, a.room, a.long))

  there : (i : ℕ) → i < r → get_or (take r after) i 0 ≡ get_or after i 0
  there i l = get_or-take r after i 0 l

  written_at : (M : ℕ) → List-as-Memᴰ M (take r after) → (i : ℕ) × (i < r) × (get_or after i 0 ≡ M)
  written_at M m =
      let p = index_of (take r after) M m in
      let l : p.0 < r = subst (λ (n : ℕ). p.0 < n) written_long p.1 in
      (p.0, l, sym (there p.0 l) ∙ p.2)

  written_has : (i : ℕ) → i < r → List-as-Memᴰ (get_or after i 0) (take r after)
  written_has i l =
      subst (λ (M : ℕ). List-as-Memᴰ M (take r after)) (there i l) (member_get_or (take r after) i (subst (λ (n : ℕ). i < n) (sym written_long) l))

  -- the first words are the least with Q
  pub written_leasts : Leasts Q (length before) (take r after)
  written_leasts = record {
    rising = rising_by (take r after) (λ i j l k.
        let m : j < r = subst (λ (n : ℕ). j < n) written_long k in
        omega (arith, there i (omega arith), there j m, a.rises i j (omega arith) l m));
    few = subst (λ (n : ℕ). n ≤ length before) (sym written_long) a.room;
    each = λ M m. let p = written_at M m in subst Q p.2 (a.each p.0 (omega arith) p.1);
    all = λ N q. go N (a.all N q);
  }
    where
      go : (N : ℕ) → StandsAmong after 0 r N ⊎ ((r ≡ length before) × ((i : ℕ) → 0 ≤ i → i < r → get_or after i 0 < N))
          → List-as-Memᴰ N (take r after) ⊎ ((length (take r after) ≡ length before) × ((M : ℕ) → List-as-Memᴰ M (take r after) → M < N))
      go N (inl s) = inl (subst (λ (M : ℕ). List-as-Memᴰ M (take r after)) s.is (written_has s.place s.to))
      go N (inr o) = inr (
        written_long ∙ o.0,
        λ M m. let p = written_at M m in subst (λ (x : ℕ). x < N) p.2 (o.1 p.0 (omega arith) p.1),
      )

  -- and behind them all is as it was
  pub written_rest : after ≡ take r after ++ drop r before
  written_rest = sym (take-append-drop r after) ∙ ap (λ (l : List ℕ). take r after ++ l) rest
    where
      rest : drop r after ≡ drop r before
      rest =
          ext_get_or 0 (drop r after) (drop r before) (length-drop r after ∙ ap (λ (n : ℕ). n - r) a.long ∙ sym (length-drop r before))
          (λ i l. get_or-drop r after i 0 ∙ a.others (r + i) (inr (omega arith)) ∙ sym (get_or-drop r before i 0))
