-- Several positions in one call: what is written is what single calls would find, and calls one after the other walk on.
use Rattle.stepping.proofs.Prelude.{◌≡◌, refl, sym, ap, ◌∙◌, subst, Bool, true, false, true≢false, ◌⊎◌, inl, inr, List, [], ◌∷◌, ◌++◌, List-as-Memᴰ}
use Rattle.stepping.proofs.Prelude.{Memᴰ-head, Memᴰ-tail, Memᴰ-not-nil, Memᴰ-cases_cons, ℕ, zero, suc, ◌+◌, ◌≤◌, ◌<◌, arith}
use Rattle.stepping.proofs.Prelude.{length, take, drop, below, Rising, rising_cons, cut_list, above_at, AnswerSet, lent, Plan, Fault, Accepted}
use Rattle.stepping.proofs.Prelude.{Refused as RefusedWith, reading, accepted, refused, ReadPlan, Settles, not_accepted, outcome_is, refused_answered}
use Rattle.stepping.proofs.Prelude.{accepted_answered, last_in, Promised, Listing, lays_accepted, Behind, Leasts, above, Option, None, Some, behind_more}
use Rattle.stepping.proofs.Prelude.{above_of}
use Rattle.stepping.proofs.Prelude.{Follows, position, none_left, followed, Walked, ends, goes, Result, Ok, Err}
use Rattle.finding.specs.Gather.{Added, Sought}
use Rattle.finding.proofs.AddedWords.{added_behind, written_long, written_leasts, written_rest}
use Rattle.stepping.specs.Batch.{steps, place_after, batch_filled, Stepped}
use Rattle.stepping.proofs.Nexts.{follows_only, followed_follows, followed_refused}
use Rattle.stepping.proofs.WalkAgreement.{walk_is_last}

-- ---- all rules of the record

pub gathered_of : (p : Plan) {w r : ℕ} {from : Option ℕ} {passed before after : List ℕ} → w ≡ below p.rule_count
    → Added (λ M. AnswerSet (lent p.rules) w p.once.given.word M × Sought from passed M) before 0 after r
    → Added (λ M. Settles p M × Sought from passed M) before 0 after r
gathered_of p e a = rw e at a

-- ---- one step more

steps_none : (bytes : List ℕ) (from : Option ℕ) → steps bytes from 0 ≡ []
unfolding steps
steps_none bytes from = refl

steps_position : (bytes : List ℕ) (from : Option ℕ) (n : ℕ) {M : ℕ} → followed bytes from ≡ Ok (Some M)
    → steps bytes from (suc n) ≡ M ∷ steps bytes (Some M) n
unfolding steps
steps_position bytes from n e = rw (e, steps)

steps_end : (bytes : List ℕ) (from : Option ℕ) (n : ℕ) → followed bytes from ≡ Ok None → steps bytes from (suc n) ≡ []
unfolding steps
steps_end bytes from n e = rw (e, steps)

steps_fault : (bytes : List ℕ) (from : Option ℕ) (n : ℕ) {f : Fault} → followed bytes from ≡ Err f → steps bytes from (suc n) ≡ []
unfolding steps
steps_fault bytes from n e = rw (e, steps)

steps_refused : (bytes : List ℕ) (from : Option ℕ) (n : ℕ) {f : Fault} → (reading bytes).outcome ≡ RefusedWith f → steps bytes from n ≡ []
steps_refused bytes from zero e = steps_none bytes from
steps_refused bytes from (suc n) {f} e = steps_fault bytes from n (followed_refused bytes from f e)

-- ---- calls one after the other

-- a full batch and the one behind its last position are one batch
pub batches_join : (bytes : List ℕ) (from : Option ℕ) (n m : ℕ) → length (steps bytes from n) ≡ n
    → steps bytes from (n + m) ≡ steps bytes from n ++ steps bytes (place_after from (steps bytes from n)) m
batches_join bytes from zero m e = rw (steps_none bytes from) (ap (steps bytes from) (omega arith))
batches_join bytes from (suc n) m e = go (followed bytes from) refl (λ M. batches_join bytes (Some M) n m)
  where
    go : (x : Result (Option ℕ) Fault) → followed bytes from ≡ x
        → ((M : ℕ) → length (steps bytes (Some M) n) ≡ n
        → steps bytes (Some M) (n + m) ≡ steps bytes (Some M) n ++ steps bytes (place_after (Some M) (steps bytes (Some M) n)) m)
        → steps bytes from (suc n + m) ≡ steps bytes from (suc n) ++ steps bytes (place_after from (steps bytes from (suc n))) m
    go (Ok (Some M)) f rest =
        let s = steps_position bytes from n f in
        let k : suc n + m ≡ suc (n + m) = omega arith in
        rw (s, k, steps_position bytes from (n + m) f)
        (ap (λ (l : List ℕ). M ∷ l) (rest M (let l : length (M ∷ steps bytes (Some M) n) ≡ suc n = rw s at e in omega arith)))
    go (Ok None) f rest = let l : length {A = ℕ} [] ≡ suc n = rw (steps_end bytes from n f) at e in absurd (omega arith)
    go (Err g) f rest = let l : length {A = ℕ} [] ≡ suc n = rw (steps_fault bytes from n f) at e in absurd (omega arith)

abbrev told : Result (Option ℕ) Fault → Bool
told (Ok (Some M)) = true
told (Ok None) = true
told (Err f) = false

follows_told : {p : Plan} {from : Option ℕ} {x : Result (Option ℕ) Fault} → Follows p from x → told x ≡ true
follows_told (position s b l) = refl
follows_told (none_left n) = refl

-- a batch that is not full is the whole walk
pub short_walked : (bytes : List ℕ) (from : Option ℕ) (n : ℕ) → (reading bytes).outcome ≡ Accepted → length (steps bytes from n) < n
    → Walked bytes from (steps bytes from n)
short_walked bytes from zero a l = absurd (omega arith)
short_walked bytes from (suc n) a l = go (followed bytes from) refl (followed_follows bytes from a) (λ M. short_walked bytes (Some M) n a)
  where
    go : (x : Result (Option ℕ) Fault) → followed bytes from ≡ x → Follows (reading bytes).plan from (followed bytes from)
        → ((M : ℕ) → length (steps bytes (Some M) n) < n → Walked bytes (Some M) (steps bytes (Some M) n)) → Walked bytes from (steps bytes from (suc n))
    go (Ok (Some M)) f k rest =
        let s = steps_position bytes from n f in
        let m : length (M ∷ steps bytes (Some M) n) < suc n = rw s at l in
        rw s (goes f (rest M (omega arith)))
    go (Ok None) f k rest = rw (steps_end bytes from n f) (ends f)
    go (Err g) f k rest = absurd (true≢false (sym (follows_told k) ∙ ap told f))

-- and a walk is the batch of any room that is enough
pub walked_steps : (bytes : List ℕ) {from : Option ℕ} {xs : List ℕ} (n : ℕ) → Walked bytes from xs → length xs ≤ n → steps bytes from n ≡ xs
walked_steps bytes {from} zero (ends e) l = steps_none bytes from
walked_steps bytes {from} (suc n) (ends e) l = steps_end bytes from n e
walked_steps bytes {from} zero (goes e w) l = absurd (omega arith)
walked_steps bytes {from} (suc n) (goes {M = M} e w) l =
    steps_position bytes from n e ∙ ap (λ (l : List ℕ). M ∷ l) (walked_steps bytes n w (omega arith))

-- one batch from the start that is not full, cut, is the last list of a plan that the unit work finishes
pub batch_is_last : (bytes table : List ℕ) {r : Listing} {table' : List ℕ} → Promised bytes table r table' → r.outcome ≡ Accepted → (n : ℕ)
    → length (steps bytes None n) < n → cut_list (reading bytes).plan.once.shown.word (steps bytes None n) ≡ last_in r table'
batch_is_last bytes table h e n l =
    walk_is_last bytes table h e (short_walked bytes None n (lays_accepted (h.demand_1.accepts.0 e).1.1.lays) l)

-- ---- what was written

module _ (bytes : List ℕ) (accepted : (reading bytes).outcome ≡ Accepted) where
  -- the least n are those that n calls find
  pub leasts_steps : (n : ℕ) (from : Option ℕ) (xs : List ℕ) → Leasts (λ M. Settles (reading bytes).plan M × Behind from M) n xs → xs ≡ steps bytes from n
  leasts_steps zero from [] k = sym (steps_none bytes from)
  leasts_steps zero from (x ∷ xs) k = absurd (omega (arith, k.few))
  leasts_steps (suc n) from [] k =
      sym (steps_end bytes from n (follows_only (followed_follows bytes from accepted) (none_left (λ N s b. go N (k.all N (s, b))))))
    where
      go : (N : ℕ) → List-as-Memᴰ N [] ⊎ ((length {A = ℕ} [] ≡ suc n) × ((M : ℕ) → List-as-Memᴰ M [] → M < N)) → ⊥
      go N (inl m) = Memᴰ-not-nil m
      go N (inr o) = omega (arith, o.0)
  leasts_steps (suc n) from (x ∷ xs) k = go k.rising (leasts_steps n (Some x) xs)
    where
      here : Settles (reading bytes).plan x × Behind from x
      here = k.each x (Memᴰ-head refl)

      low : (N : ℕ) → Rising (x ∷ xs)
          → List-as-Memᴰ N (x ∷ xs) ⊎ ((length (x ∷ xs) ≡ suc n) × ((M : ℕ) → List-as-Memᴰ M (x ∷ xs) → M < N)) → x ≤ N
      low N (rising_cons a r) (inl m) = at (Memᴰ-cases_cons m)
        where
          at : (N ≡ x) ⊎ List-as-Memᴰ N xs → x ≤ N
          at (inl e) = omega arith
          at (inr q) = omega (arith, above_at a N q)
      low N r (inr o) = omega (arith, o.1 x (Memᴰ-head refl))

      rest : (N : ℕ) → x < N → List-as-Memᴰ N (x ∷ xs) ⊎ ((length (x ∷ xs) ≡ suc n) × ((M : ℕ) → List-as-Memᴰ M (x ∷ xs) → M < N))
          → List-as-Memᴰ N xs ⊎ ((length xs ≡ n) × ((M : ℕ) → List-as-Memᴰ M xs → M < N))
      rest N l (inl m) = at (Memᴰ-cases_cons m)
        where
          at : (N ≡ x) ⊎ List-as-Memᴰ N xs → List-as-Memᴰ N xs ⊎ ((length xs ≡ n) × ((M : ℕ) → List-as-Memᴰ M xs → M < N))
          at (inl e) = absurd (omega arith)
          at (inr q) = inl q
      rest N l (inr o) = inr (omega (arith, o.0), λ M m. o.1 M (Memᴰ-tail m))

      go : Rising (x ∷ xs) → (Leasts (λ M. Settles (reading bytes).plan M × Behind (Some x) M) n xs → xs ≡ steps bytes (Some x) n)
          → x ∷ xs ≡ steps bytes from (suc n)
      go (rising_cons a r) more =
          ap (λ (l : List ℕ). x ∷ l)
          (more
          (record {
            rising = r;
            few = omega (arith, k.few);
            each = λ M m. ((k.each M (Memᴰ-tail m)).0, above (above_at a M m));
            all = λ N q. rest N (above_of q.1) (k.all N (q.0, behind_more here.1 (above_of q.1)));
          }))
          ∙ sym (steps_position bytes from n
          (follows_only (followed_follows bytes from accepted)
          (position here.0 here.1 (λ N s b. low N (rising_cons a r) (k.all N (s, b))))))

module _ (bytes : List ℕ) (from : Option ℕ) where
  pub refused_stepped : {f : Fault} → refused f ≡ reading bytes → (words : List ℕ) → Stepped bytes from words words (Err f)
  refused_stepped read words = record {
    answered = refused_answered bytes read refl refl;
    words_are = rw (steps_refused bytes from (length words) (outcome_is bytes read refl)) refl;
    untouched = λ _ _. refl;
  }

  pub written_stepped : {p : Plan} → accepted p ≡ reading bytes → (words : List ℕ) {words' : List ℕ} {count : ℕ}
      → Added (λ M. Settles p M × Sought from [] M) words 0 words' count → Stepped bytes from words words' (Ok count)
  written_stepped {p} read words {words'} {count} added = record {
    answered = accepted_answered bytes read refl (ap Ok (sym (written_long told) ∙ ap length same))
        (subst (Leasts (λ M. Settles p M × Behind from M) (length words)) same (written_leasts told));
    words_are = written_rest told ∙ ap (λ (n : ℕ). take count words' ++ drop n words) (sym (written_long told))
        ∙ ap (λ (l : List ℕ). batch_filled l words) same;
    untouched = λ f k. absurd (not_accepted f (sym (outcome_is bytes read refl) ∙ k));
  }
    where
      told : Added (λ M. Settles p M × Behind from M) words 0 words' count
      told = added_behind added

      same : take count words' ≡ steps bytes from (length words)
      same =
          leasts_steps bytes (outcome_is bytes read refl) (length words) from (take count words')
          (subst (λ (y : ReadPlan). Leasts (λ M. Settles y.plan M × Behind from M) (length words) (take count words')) read (written_leasts told))
