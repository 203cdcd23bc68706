-- An answer set of the whole program is an answer set in every unit: a smaller model of one unit's rules would be filled up, by what M has
-- outside the heads of the unit, to a smaller model of the whole.
use Rattle.splitting.proofs.Prelude.{◌≡◌, subst, ◌⊎◌, inl, inr, ℕ, ◌<◌, Has, ◌⊆◌, ◌∩◌, ◌∪◌, ◌∖◌, below, ext, has_dec, has_cut, cut_left, cut_right}
use Rattle.splitting.proofs.Prelude.{has_left, has_right, union_cases, has_without, without_left, without_right, has_below, below_lt, subset_refl}
use Rattle.splitting.proofs.Prelude.{Body, Satisfies, Kept, ReductModel, AnswerSet, Supported, supported, satisfied, least, of_least, Units, Holds}
use Rattle.splitting.proofs.Prelude.{LooksOnly, Passes, own, heads, input_heads, own_has, heads_cases, input_given, Headed, AllHeaded, headed_subset}
use Rattle.splitting.proofs.Prelude.{Covers, held_heads, own_unique, headed_covers, body_up, body_down}
use Rattle.splitting.proofs.UnitCuts.{numbers, has_number, number_held, cut_mono}
use Rattle.splitting.proofs.Local.{AnswersUnits, input_in_heads}

-- the unit of a rule with a head atom a is the one that has a as its own
own_holds : (S : Units) → Passes S → (w r a : ℕ) → w < S.units → r < S.rules → Has (S.program.head r) a
    → Has (own S w) a → Holds S w r
own_holds S pass w r a l k p o =
    let t = pass.a.placed r k in
    let e : t.0 ≡ w = own_unique S pass t.0 w a t.1.is_unit l (own_has S t.0 r a t.1 p) o in
    subst (λ (x : ℕ). Holds S x r) e t.1

module _ (S : Units) (pass : Passes S) (looks : LooksOnly S) (M : ℕ)
    (s : AnswerSet S.program (below S.rules) S.given M) where
  -- M has only atoms that can be up
  whole_headed : AllHeaded S M
  whole_headed = record { each = λ a h. go a (supported S.program (below S.rules) S.given M a s h) }
    where
      go : (a : ℕ) → Supported S.program (below S.rules) S.given a → Headed S a
      go a (inl g) = inl g
      go a (inr t) = inr (t.0, below_lt S.rules t.1, t.2)

  -- M cut to the heads of w satisfies w's rules
  local_model : (w : ℕ) → w < S.units
      → ReductModel S.program (numbers S w) (M ∩ input_heads S w) (M ∩ heads S w) (M ∩ heads S w)
  local_model w l = record {
    facts_up = cut_mono M M (input_heads S w) (heads S w) subset_refl (input_in_heads S w l);
    each = λ r k. record { head_up = go r (number_held S w r l k.numbered) };
  }
    where
      go : (r : ℕ) → Holds S w r → Body S.program r (M ∩ heads S w)
          → (a : ℕ) × Has (S.program.head r) a × Has (M ∩ heads S w) a
      go r h b =
          let sat = satisfied S.program (below S.rules) S.given M r s (has_below S.rules r h.is_rule) in
          let t = sat.head_up (body_up S pass looks w r M whole_headed h b) in
          (t.0, t.1, has_cut M (heads S w) t.2 (held_heads S w r t.0 h t.1))

  -- a model N of w's rules below that, filled up to one of the whole program
  module _ (w : ℕ) (l : w < S.units) (N : ℕ) (f : N ⊆ M ∩ heads S w)
      (m : ReductModel S.program (numbers S w) (M ∩ input_heads S w) (M ∩ heads S w) N) where
    filled : ℕ
    filled = N ∪ (M ∖ heads S w)

    filled_left : (a : ℕ) → Has N a → Has filled a
    unfolding filled
    filled_left a p = has_left N (M ∖ heads S w) p

    filled_right : (a : ℕ) → Has M a → ¬ Has (heads S w) a → Has filled a
    unfolding filled
    filled_right a p h = has_right N (M ∖ heads S w) (has_without M (heads S w) p h)

    filled_cases : (a : ℕ) → Has filled a → Has N a ⊎ Has (M ∖ heads S w) a
    unfolding filled
    filled_cases a p = union_cases N (M ∖ heads S w) p

    filled_within : filled ⊆ M
    filled_within = record { each = λ a p. go a (filled_cases a p) }
      where
        go : (a : ℕ) → Has N a ⊎ Has (M ∖ heads S w) a → Has M a
        go a (inl p) = cut_left M (heads S w) (f.each a p)
        go a (inr p) = without_left M (heads S w) p

    filled_old : (a : ℕ) → Has filled a → Has (heads S w) a → Has N a
    filled_old a p h = go (filled_cases a p)
      where
        go : Has N a ⊎ Has (M ∖ heads S w) a → Has N a
        go (inl q) = q
        go (inr q) = absurd (without_right M (heads S w) q h)

    -- cut to the heads of w it is N again
    filled_cut : filled ∩ heads S w ≡ N
    filled_cut =
        ext (filled ∩ heads S w) N (λ a p. filled_old a (cut_left filled (heads S w) p) (cut_right filled (heads S w) p))
        (λ a p. has_cut filled (heads S w) (filled_left a p) (cut_right M (heads S w) (f.each a p)))

    filled_input : (a : ℕ) → Has M a → Has (input_heads S w) a → Has filled a
    filled_input a p q = filled_left a (m.facts_up.each a (has_cut M (input_heads S w) p q))

    -- a rule of w with a head, kept at M, is satisfied through N
    filled_own : (r a : ℕ) → Has (S.program.head r) a → Holds S w r → Body S.program r M
        → Satisfies S.program r filled
    filled_own r a p h b = record { head_up = λ c. let t = through c in (t.0, t.1, filled_left t.0 t.2) }
      where
        covers : Covers S w r
        covers = headed_covers S pass w r a p h

        at-N : Body S.program r filled → Body S.program r N
        at-N c =
            subst (λ (x : ℕ). Body S.program r x) filled_cut
            (body_down S pass looks w r filled (headed_subset S filled_within whole_headed) covers c)

        kept : Kept S.program (numbers S w) (M ∩ heads S w) r
        kept = record { numbered = has_number S w r h; holds = body_down S pass looks w r M whole_headed covers b }

        through : Body S.program r filled → (i : ℕ) × Has (S.program.head r) i × Has N i
        through c = (m.each r kept).head_up (at-N c)

    -- any other has a head atom that is up in M and was not taken away
    filled_rule : (r : ℕ) → Kept S.program (below S.rules) M r → Satisfies S.program r filled
    filled_rule r k =
        let t = (s.model.each r k).head_up k.holds in
        go t.0 t.1 t.2 (has_dec (heads S w) t.0)
      where
        inside : (a : ℕ) → Has (S.program.head r) a → Has M a → Has (own S w) a ⊎ Has (input_heads S w) a
            → Satisfies S.program r filled
        inside a p q (inl o) = filled_own r a p (own_holds S pass w r a l (below_lt S.rules k.numbered) p o) k.holds
        inside a p q (inr i) = record { head_up = λ c. (a, p, filled_input a q i) }

        go : (a : ℕ) → Has (S.program.head r) a → Has M a → Dec (Has (heads S w) a) → Satisfies S.program r filled
        go a p q (yes h) = inside a p q (heads_cases S w a l h)
        go a p q (no h) = record { head_up = λ c. (a, p, filled_right a q h) }

    filled_model : ReductModel S.program (below S.rules) S.given M filled
    filled_model = record {
      facts_up = record { each = λ a g. filled_input a (s.model.facts_up.each a g) (input_given S w a g) };
      each = filled_rule;
    }

    local_least : M ∩ heads S w ⊆ N
    local_least = record {
      each = λ a p. filled_old a (all.each a (cut_left M (heads S w) p)) (cut_right M (heads S w) p);
    }
      where
        all : M ⊆ filled
        all = least S.program (below S.rules) S.given M s filled filled_within filled_model

  pub whole_answers : AnswersUnits S M
  whole_answers = record {
    given_up = s.model.facts_up;
    headed = whole_headed;
    each = λ w l.
        of_least S.program (numbers S w) (M ∩ input_heads S w) (M ∩ heads S w) (local_model w l) (local_least w l);
  }
