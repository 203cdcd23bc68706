-- The list of a unit that has every unit under it is the set of answer sets of the whole program: both say that a position is
-- an answer set in every unit.
use Rattle.splitting.proofs.Prelude.{sym, subst, ◌↔◌, ◌⊎◌, inl, inr, ℕ, ◌<◌, Has, ◌⊆◌, ◌∩◌, below, AnswerSet, Units, LooksOnly, GivenFree, Passes, own}
use Rattle.splitting.proofs.Prelude.{heads, own_has, own_at, heads_given, Under, under_unit, heads_under, heads_source, Headed, AllHeaded, Listed}
use Rattle.splitting.proofs.UnitCuts.{cut_whole}
use Rattle.splitting.proofs.Form.{listed_member}
use Rattle.splitting.proofs.Local.{AnswersUnits, listed_locals, locals_listed}
use Rattle.splitting.proofs.Whole.{whole}

-- the heads of a unit can be up
pub heads_headed : (S : Units) (u a : ℕ) → u < S.units → Has (heads S u) a → Headed S a
heads_headed S u a l h = go (heads_source S u a l h)
  where
    go : Has S.given a ⊎ ((w : ℕ) × Under S u w × Has (own S w) a) → Headed S a
    go (inl g) = inl g
    go (inr t) =
        let r = own_at S t.0 a (under_unit S l t.1) t.2 in
        inr (r.0, r.1.is_rule, r.2)

module _ (S : Units) (pass : Passes S) (free : GivenFree S) (u : ℕ) (l : u < S.units)
    (top : (w : ℕ) → w < S.units → Under S u w) where
  headed_heads : (M : ℕ) → AllHeaded S M → M ⊆ heads S u
  headed_heads M f = record { each = λ a h. go a (f.each a h) }
    where
      go : (a : ℕ) → Headed S a → Has (heads S u) a
      go a (inl g) = heads_given S u a g
      go a (inr t) =
          let x = pass.a.placed t.0 t.1 in
          heads_under S a (top x.0 x.1.is_unit) (own_has S x.0 t.0 a x.1 t.2)

  listed_answers : (M : ℕ) → Listed S u M → AnswersUnits S M
  listed_answers M h =
      let m = (listed_member S pass free u l M).0 h in
      let c : Listed S u (M ∩ heads S u) = subst (λ (x : ℕ). Listed S u x) (sym (cut_whole M (heads S u) m.within)) h in
      record {
        given_up = m.given_up;
        headed = record { each = λ a p. heads_headed S u a l (m.within.each a p) };
        each = λ w k. listed_locals S pass free M u l c (top w k);
      }

  answers_listed : (M : ℕ) → AnswersUnits S M → Listed S u M
  answers_listed M s =
      subst (λ (x : ℕ). Listed S u x) (cut_whole M (heads S u) (headed_heads M s.headed))
      (locals_listed S pass free M s.given_up u l (λ w p. s.each w (under_unit S l p)))

  pub top_list : LooksOnly S → (M : ℕ) → Listed S u M ↔ AnswerSet S.program (below S.rules) S.given M
  top_list looks M =
      (λ h. (whole S pass looks M).1 (listed_answers M h), λ s. answers_listed M ((whole S pass looks M).0 s))
