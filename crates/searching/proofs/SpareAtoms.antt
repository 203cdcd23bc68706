-- Spare atoms: bodies and answer sets do not look at them.
use Rattle.searching.proofs.Prelude.{sym, ◌∙◌, ◌⊎◌, inl, inr, List, ℕ, Has, ◌⊆◌}
use Rattle.searching.proofs.Prelude.{◌⊂◌, Apart, ◌∩◌, ◌∪◌, ◌∖◌, has_dec, has_cut, cut_left, cut_right, has_left, has_right}
use Rattle.searching.proofs.Prelude.{has_without, without_left, without_right, union_cases, Body, Satisfies}
use Rattle.searching.proofs.Prelude.{ReductModel, Kept, lent, in_head, in_positive, in_looks, AnswersInputs}
use Rattle.searching.proofs.Prelude.{AlikeBut, Spare}
use Rattle.answer_sets.proofs.Bodies.{rest_same}

pub alike_sym : {X M N : ℕ} → AlikeBut X M N → AlikeBut X N M
alike_sym a = record { elsewhere = λ i n. ((a.elsewhere i n).1, (a.elsewhere i n).0) }

-- without the atoms, and with some of them
pub alike_without : (X M : ℕ) → AlikeBut X M (M ∖ X)
alike_without X M = record { elsewhere = λ i n. (λ h. has_without M X h n, λ h. without_left M X h) }

pub alike_with : (X N : ℕ) {W : ℕ} → W ⊆ X → AlikeBut X N (N ∪ W)
alike_with X N {W} f = record { elsewhere = λ i n. (λ h. has_left N W h, λ h. go i n (union_cases N W h)) }
  where
    go : (i : ℕ) → ¬ Has X i → Has N i ⊎ Has W i → Has N i
    go i n (inl h) = h
    go i n (inr h) = absurd (n (f.each i h))

module _ {rules : List ℕ} {which X : ℕ} (sp : Spare rules which X) where
  body_alike : (r : ℕ) → Has which r → {M N : ℕ} → AlikeBut X M N → Body (lent rules) r M → Body (lent rules) r N
  body_alike r p {M} {N} a b = record {
    positive_up = record { each = λ i h. (a.elsewhere i (sp.in_no_rule r i p (in_positive h))).0 (b.positive_up.each i h) };
    rest_holds = sym (rest_same rules r M N (λ i h. a.elsewhere i (sp.in_no_rule r i p (in_looks h)))) ∙ b.rest_holds;
  }

  head_alike : (r a : ℕ) → Has which r → Has ((lent rules).head r) a → {M N : ℕ} → AlikeBut X M N → Has M a → Has N a
  head_alike r a p h k = (k.elsewhere a (sp.in_no_rule r a p (in_head h))).0

  satisfied_alike : (r : ℕ) → Has which r → {M N : ℕ} → AlikeBut X M N → Satisfies (lent rules) r M → Satisfies (lent rules) r N
  satisfied_alike r p a s = record {
    head_up = λ b. let h = s.head_up (body_alike r p (alike_sym a) b) in (h.0, h.1, head_alike r h.0 p h.1 a h.2);
  }

  kept_alike : {M N : ℕ} → AlikeBut X M N → (r : ℕ) → Kept (lent rules) which M r → Kept (lent rules) which N r
  kept_alike a r k = record { numbered = k.numbered; holds = body_alike r k.numbered a k.holds }

  -- models of the reducts, cut and filled up
  model_alike : {f g M N K L : ℕ} → AlikeBut X M N → AlikeBut X K L → g ⊆ L → ReductModel (lent rules) which f M K → ReductModel (lent rules) which g N L
  model_alike a b facts m = record {
    facts_up = facts;
    each = λ r k. satisfied_alike r k.numbered b (m.each r (kept_alike (alike_sym a) r k));
  }

  -- an answer set with spare inputs, without them
  pub answers_without : {inputs M : ℕ} → AnswersInputs rules which (inputs ∪ X) M → AnswersInputs rules which inputs (M ∖ X)
  answers_without {inputs} {M} s = record {
    answer = record {
      model = model_alike (alike_without X M) (alike_without X M) (record { each = λ i h. cut_left (M ∖ X) inputs h }) s.answer.model;
      minimal = λ K proper m. s.answer.minimal (K ∪ (M ∩ X)) (filled K proper)
          (model_alike (alike_sym (alike_without X M)) (alike_with X K (record { each = λ i h. cut_right M X h })) (facts K m.facts_up) m);
    };
  }
    where
      facts : (K : ℕ) → (M ∖ X) ∩ inputs ⊆ K → M ∩ (inputs ∪ X) ⊆ K ∪ (M ∩ X)
      facts K f = record { each = λ i h. go i (cut_left M (inputs ∪ X) h) (cut_right M (inputs ∪ X) h) (has_dec X i) }
        where
          inside : (i : ℕ) → ¬ Has X i → Has inputs i ⊎ Has X i → Has inputs i
          inside i n (inl h) = h
          inside i n (inr h) = absurd (n h)

          go : (i : ℕ) → Has M i → Has (inputs ∪ X) i → Dec (Has X i) → Has (K ∪ (M ∩ X)) i
          go i m h (yes x) = has_right K (M ∩ X) (has_cut M X m x)
          go i m h (no x) =
              has_left K (M ∩ X) (f.each i (has_cut (M ∖ X) inputs (has_without M X m x) (inside i x (union_cases inputs X h))))

      filled : (K : ℕ) → K ⊂ M ∖ X → K ∪ (M ∩ X) ⊂ M
      filled K p = record {
        within = record { each = λ i h. into i (union_cases K (M ∩ X) h) };
        short = λ f. p.short (record {
          each = λ i h. back i (without_right M X h) (union_cases K (M ∩ X) (f.each i (without_left M X h)));
        });
      }
        where
          into : (i : ℕ) → Has K i ⊎ Has (M ∩ X) i → Has M i
          into i (inl h) = without_left M X (p.within.each i h)
          into i (inr h) = cut_left M X h

          back : (i : ℕ) → ¬ Has X i → Has K i ⊎ Has (M ∩ X) i → Has K i
          back i n (inl h) = h
          back i n (inr h) = absurd (n (cut_right M X h))

  -- and with some of them
  pub answers_with : {inputs N W : ℕ} → Apart X N → W ⊆ X → AnswersInputs rules which inputs N → AnswersInputs rules which (inputs ∪ X) (N ∪ W)
  answers_with {inputs} {N} {W} off sub s = record {
    answer = record {
      model = model_alike (alike_with X N sub) (alike_with X N sub) (record { each = λ i h. cut_left (N ∪ W) (inputs ∪ X) h }) s.answer.model;
      minimal = λ K proper m. s.answer.minimal (K ∖ X) (cut_down K proper m.facts_up)
          (model_alike (alike_sym (alike_with X N sub)) (alike_without X K) (facts K m.facts_up) m);
    };
  }
    where
      facts : (K : ℕ) → (N ∪ W) ∩ (inputs ∪ X) ⊆ K → N ∩ inputs ⊆ K ∖ X
      facts K f = record {
        each = λ i h.
            has_without K X
            (f.each i (has_cut (N ∪ W) (inputs ∪ X) (has_left N W (cut_left N inputs h)) (has_left inputs X (cut_right N inputs h))))
            (λ x. off.none i x (cut_left N inputs h));
      }

      cut_down : (K : ℕ) → K ⊂ N ∪ W → (N ∪ W) ∩ (inputs ∪ X) ⊆ K → K ∖ X ⊂ N
      cut_down K p f = record {
        within = record { each = λ i h. into i (without_right K X h) (union_cases N W (p.within.each i (without_left K X h))) };
        short = λ g. p.short (record { each = λ i h. back i g (union_cases N W h) });
      }
        where
          into : (i : ℕ) → ¬ Has X i → Has N i ⊎ Has W i → Has N i
          into i n (inl h) = h
          into i n (inr h) = absurd (n (sub.each i h))

          back : (i : ℕ) → N ⊆ K ∖ X → Has N i ⊎ Has W i → Has K i
          back i g (inl h) = without_left K X (g.each i h)
          back i g (inr h) = f.each i (has_cut (N ∪ W) (inputs ∪ X) (has_right N W h) (has_right inputs X (sub.each i h)))

  -- an answer set has no spare atom but for inputs
  pub answers_off : {inputs M : ℕ} → Apart inputs X → AnswersInputs rules which inputs M → Apart X M
  answers_off {inputs} {M} off s = record {
    none = λ i x m. s.answer.minimal (M ∖ X) (fewer i x m)
        (model_alike (record { elsewhere = λ j n. (λ h. h, λ h. h) }) (alike_without X M) facts s.answer.model);
  }
    where
      facts : M ∩ inputs ⊆ M ∖ X
      facts = record { each = λ j h. has_without M X (cut_left M inputs h) (off.none j (cut_right M inputs h)) }

      fewer : (i : ℕ) → Has X i → Has M i → M ∖ X ⊂ M
      fewer i x m = record {
        within = record { each = λ j h. without_left M X h };
        short = λ f. without_right M X (f.each i m) x;
      }
