-- The whole program unit by unit: M is an answer set exactly if it is an answer set in every unit. A rule is satisfied through a unit that
-- covers it; a smaller model of the whole is cut to each unit in turn, along the edges, and has all that M has there.
use Rattle.splitting.proofs.Prelude.{◌↔◌, ◌⊎◌, inl, inr, ℕ, ◌<◌, Has, ◌⊆◌, ◌∩◌, below, has_cut, cut_left, cut_right, has_below, below_lt, subset_refl}
use Rattle.splitting.proofs.Prelude.{subset_trans, Body, Kept, ReductModel, AnswerSet, satisfied, least, of_least, Units, Holds, Edge, LooksOnly}
use Rattle.splitting.proofs.Prelude.{Passes, heads, input_heads, heads_input, input_cases, along_edges, Headed, headed_subset, Covers, held_heads}
use Rattle.splitting.proofs.Prelude.{covered, body_up, body_down}
use Rattle.splitting.proofs.UnitCuts.{numbers, has_number, number_held, cut_below, cut_mono}
use Rattle.splitting.proofs.Local.{AnswersUnits}
use Rattle.splitting.proofs.FilledUnits.{whole_answers}

module _ (S : Units) (pass : Passes S) (looks : LooksOnly S) (M : ℕ) (s : AnswersUnits S M) where
  -- each rule is satisfied through a unit that covers it
  whole_model : ReductModel S.program (below S.rules) S.given M M
  whole_model = record {
    facts_up = s.given_up;
    each = λ r k. record { head_up = go r (covered S pass r (below_lt S.rules k.numbered)) };
  }
    where
      go : (r : ℕ) → (u : ℕ) × Covers S u r → Body S.program r M → (a : ℕ) × Has (S.program.head r) a × Has M a
      go r c b =
          let u = c.0 in
          let h = c.1.holds in
          let sat = satisfied S.program (numbers S u) (M ∩ input_heads S u) (M ∩ heads S u) r (s.each u h.is_unit) (has_number S u r h) in
          let t = sat.head_up (body_down S pass looks u r M s.headed c.1 b) in
          (t.0, t.1, cut_left M (heads S u) t.2)

  -- a model N of the kept rules within M has what M has of each unit's heads
  module _ (N : ℕ) (f : N ⊆ M) (m : ReductModel S.program (below S.rules) S.given M N) where
    smaller_input : (w : ℕ) → w < S.units → ((v : ℕ) → Edge S w v → M ∩ heads S v ⊆ N) → M ∩ input_heads S w ⊆ N
    smaller_input w l ih = record {
      each = λ a p. go a (cut_left M (input_heads S w) p) (input_cases S w a l (cut_right M (input_heads S w) p));
    }
      where
        go : (a : ℕ) → Has M a → Has S.given a ⊎ ((v : ℕ) × Edge S w v × Has (heads S v) a) → Has N a
        go a p (inl g) = m.facts_up.each a g
        go a p (inr t) = (ih t.0 t.1).each a (has_cut M (heads S t.0) p t.2)

    -- cut to the heads of w it satisfies w's rules
    smaller_model : (w : ℕ) → w < S.units → M ∩ input_heads S w ⊆ N
        → ReductModel S.program (numbers S w) (M ∩ input_heads S w) (M ∩ heads S w) (N ∩ heads S w)
    smaller_model w l j = record {
      facts_up = record {
        each = λ a p. has_cut N (heads S w) (j.each a p) (heads_input S w a l (cut_right M (input_heads S w) p));
      };
      each = λ r k. record { head_up = go r (number_held S w r l k.numbered) k.holds };
    }
      where
        kept : (r : ℕ) → Holds S w r → Body S.program r (M ∩ heads S w) → Kept S.program (below S.rules) M r
        kept r h b = record {
          numbered = has_below S.rules r h.is_rule;
          holds = body_up S pass looks w r M s.headed h b;
        }

        go : (r : ℕ) → Holds S w r → Body S.program r (M ∩ heads S w) → Body S.program r (N ∩ heads S w)
            → (a : ℕ) × Has (S.program.head r) a × Has (N ∩ heads S w) a
        go r h b c =
            let n = body_up S pass looks w r N (headed_subset S f s.headed) h c in
            let t = (m.each r (kept r h b)).head_up n in
            (t.0, t.1, has_cut N (heads S w) t.2 (held_heads S w r t.0 h t.1))

    smaller_heads : (w : ℕ) → w < S.units → M ∩ heads S w ⊆ N
    smaller_heads = along_edges S pass.acyclic (λ w. M ∩ heads S w ⊆ N) step
      where
        step : (w : ℕ) → w < S.units → ((v : ℕ) → Edge S w v → M ∩ heads S v ⊆ N) → M ∩ heads S w ⊆ N
        step w l ih =
            subset_trans
            (least S.program (numbers S w) (M ∩ input_heads S w) (M ∩ heads S w) (s.each w l) (N ∩ heads S w)
            (cut_mono N M (heads S w) (heads S w) f subset_refl) (smaller_model w l (smaller_input w l ih)))
            (cut_below N (heads S w))

    whole_least : M ⊆ N
    whole_least = record { each = λ a p. go a p (s.headed.each a p) }
      where
        go : (a : ℕ) → Has M a → Headed S a → Has N a
        go a p (inl g) = m.facts_up.each a g
        go a p (inr t) =
            let x = pass.a.placed t.0 t.1 in
            (smaller_heads x.0 x.1.is_unit).each a
            (has_cut M (heads S x.0) p (held_heads S x.0 t.0 a x.1 t.2))

  pub answers_whole : AnswerSet S.program (below S.rules) S.given M
  answers_whole = of_least S.program (below S.rules) S.given M whole_model whole_least

pub whole : (S : Units) → Passes S → LooksOnly S → (M : ℕ)
    → AnswerSet S.program (below S.rules) S.given M ↔ AnswersUnits S M
whole S pass looks M = (whole_answers S pass looks M, answers_whole S pass looks M)
