-- No member of a list lies within another: along the edges the two have the same input, and then they are answer sets of the
-- same rules and facts.
use Rattle.splitting.proofs.Prelude.{◌≡◌, subst, ◌⊎◌, inl, inr, ℕ, ◌<◌, Has, ◌⊆◌, ◌∩◌, has_cut, cut_left, cut_right, subset_refl, subset_antisym}
use Rattle.splitting.proofs.Prelude.{AnswerSet, antichain, Units, Edge, GivenFree, Passes, heads, input_heads, input_cases, along_edges, Listed}
use Rattle.splitting.proofs.UnitCuts.{numbers, cut_mono}
use Rattle.splitting.proofs.Form.{Member, listed_member}

-- no member of the list of u lies within another
abbrev Incomparable : Units → ℕ → Type 0
Incomparable S u = (M N : ℕ) → Listed S u M → Listed S u N → M ⊆ N → N ⊆ M

module _ (S : Units) (pass : Passes S) (free : GivenFree S) where
  same_input : (u M N : ℕ) → u < S.units → ((v : ℕ) → Edge S u v → Incomparable S v) → Member S u M → Member S u N
      → M ⊆ N → M ∩ input_heads S u ≡ N ∩ input_heads S u
  same_input u M N l ih m n f =
      subset_antisym (cut_mono M N (input_heads S u) (input_heads S u) f subset_refl) (record {
        each = λ a p.
            let i = cut_right N (input_heads S u) p in
            has_cut M (input_heads S u) (go a (cut_left N (input_heads S u) p) (input_cases S u a l i)) i;
      })
    where
      below : (v : ℕ) → Edge S u v → N ∩ heads S v ⊆ M ∩ heads S v
      below v e =
          ih v e (M ∩ heads S v) (N ∩ heads S v) (m.inputs v e) (n.inputs v e)
          (cut_mono M N (heads S v) (heads S v) f subset_refl)

      go : (a : ℕ) → Has N a → Has S.given a ⊎ ((v : ℕ) × Edge S u v × Has (heads S v) a) → Has M a
      go a p (inl g) = m.given_up.each a g
      go a p (inr t) = cut_left M (heads S t.0) ((below t.0 t.1).each a (has_cut N (heads S t.0) p t.2))

  pub list_antichain : (u : ℕ) → u < S.units → (M N : ℕ) → Listed S u M → Listed S u N → M ⊆ N → N ⊆ M
  list_antichain = along_edges S pass.acyclic (Incomparable S) step
    where
      step : (u : ℕ) → u < S.units → ((v : ℕ) → Edge S u v → Incomparable S v) → Incomparable S u
      step u l ih M N p q f =
          let m = (listed_member S pass free u l M).0 p in
          let n = (listed_member S pass free u l N).0 q in
          let e : M ∩ input_heads S u ≡ N ∩ input_heads S u = same_input u M N l ih m n f in
          antichain S.program (numbers S u) (N ∩ input_heads S u) M N
          (subst (λ (x : ℕ). AnswerSet S.program (numbers S u) x M) e m.answer) n.answer f
