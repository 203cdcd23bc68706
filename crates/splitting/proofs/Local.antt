-- Lists by what holds unit by unit: a position is in the list of u exactly if it is an answer set locally in u and in every unit that u
-- reaches. Going down a path cuts the position; going up is the induction along the edges.
use Rattle.splitting.proofs.Prelude.{sym, subst, ℕ, ◌<◌, ◌⊆◌, ◌∩◌, below, has_cut, AnswerSet, Units, Edge, Path, one, more, GivenFree, Passes, heads}
use Rattle.splitting.proofs.Prelude.{input_heads, heads_given, heads_input, heads_edge, path_end, along_edges, Under, here, down, under_edge, AllHeaded}
use Rattle.splitting.proofs.Prelude.{Listed}
use Rattle.splitting.proofs.UnitCuts.{numbers, cut_inner, cut_within}
use Rattle.splitting.proofs.Form.{Member, listed_member}

-- what M has of the heads of w is an answer set of w's rules, with what M has of the heads below as facts
abbrev pub Local : Units → ℕ → ℕ → Type 0
Local S w M = AnswerSet S.program (S.unit w ∩ below S.rules) (M ∩ input_heads S w) (M ∩ heads S w)

-- M has the given atoms, only atoms that can be up, and is an answer set in every unit
pub record AnswersUnits (S : Units) (M : ℕ) : Type 0 where
  pub given_up : S.given ⊆ M
  pub headed : AllHeaded S M
  pub each : (w : ℕ) → w < S.units → Local S w M

pub input_in_heads : (S : Units) (u : ℕ) → u < S.units → input_heads S u ⊆ heads S u
input_in_heads S u l = record { each = λ a. heads_input S u a l }

heads_in_heads : (S : Units) (u v : ℕ) → Edge S u v → heads S v ⊆ heads S u
heads_in_heads S u v e = record { each = λ a. heads_edge S u v a e }

module _ (S : Units) (pass : Passes S) (free : GivenFree S) (M : ℕ) where
  listed_local : (u : ℕ) → u < S.units → Listed S u (M ∩ heads S u) → Local S u M
  listed_local u l h =
      subst (λ (x : ℕ). AnswerSet S.program (numbers S u) x (M ∩ heads S u))
      (cut_inner M (heads S u) (input_heads S u) (input_in_heads S u l))
      ((listed_member S pass free u l (M ∩ heads S u)).0 h).answer

  listed_edge : (u v : ℕ) → Edge S u v → Listed S u (M ∩ heads S u) → Listed S v (M ∩ heads S v)
  listed_edge u v e h =
      subst (λ (x : ℕ). Listed S v x) (cut_inner M (heads S u) (heads S v) (heads_in_heads S u v e))
      (((listed_member S pass free u e.is_unit (M ∩ heads S u)).0 h).inputs v e)

  listed_path : {u w : ℕ} → Path S u w → Listed S u (M ∩ heads S u) → Listed S w (M ∩ heads S w)
  listed_path (one {u = u} {v = v} e) h = listed_edge u v e h
  listed_path (more {u = u} {v = v} e p) h = listed_path p (listed_edge u v e h)

  pub listed_locals : (u : ℕ) → u < S.units → Listed S u (M ∩ heads S u) → {w : ℕ} → Under S u w → Local S w M
  listed_locals u l h here = listed_local u l h
  listed_locals u l h {w} (down p) = listed_local w (path_end S p) (listed_path p h)

  local_member : (u : ℕ) → u < S.units → S.given ⊆ M → Local S u M
      → ((v : ℕ) → Edge S u v → Listed S v (M ∩ heads S v)) → Member S u (M ∩ heads S u)
  local_member u l g s f = record {
    given_up = record { each = λ a p. has_cut M (heads S u) (g.each a p) (heads_given S u a p) };
    within = cut_within M (heads S u);
    inputs = λ v e.
        subst (λ (x : ℕ). Listed S v x) (sym (cut_inner M (heads S u) (heads S v) (heads_in_heads S u v e))) (f v e);
    answer = subst (λ (x : ℕ). AnswerSet S.program (numbers S u) x (M ∩ heads S u))
        (sym (cut_inner M (heads S u) (input_heads S u) (input_in_heads S u l))) s;
  }

  pub locals_listed : S.given ⊆ M → (u : ℕ) → u < S.units → ((w : ℕ) → Under S u w → Local S w M)
      → Listed S u (M ∩ heads S u)
  locals_listed g = along_edges S pass.acyclic (λ u. ((w : ℕ) → Under S u w → Local S w M) → Listed S u (M ∩ heads S u)) step
    where
      step : (u : ℕ) → u < S.units
          → ((v : ℕ) → Edge S u v → ((w : ℕ) → Under S v w → Local S w M) → Listed S v (M ∩ heads S v))
          → ((w : ℕ) → Under S u w → Local S w M) → Listed S u (M ∩ heads S u)
      step u l ih f =
          (listed_member S pass free u l (M ∩ heads S u)).1
          (local_member u l g (f u here) (λ v e. ih v e (λ w p. f w (down (under_edge S e p)))))
