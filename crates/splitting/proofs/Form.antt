-- A unit's list in the form that a search asks: no input has to be guessed, for the input of a member is what it has of the heads of
-- the direct predecessors. Own head atoms are apart from those, and an answer set has only own head atoms and facts.
use Rattle.splitting.proofs.Prelude.{◌≡◌, sym, ap, ◌∙◌, subst, ◌↔◌, ◌⊎◌, inl, inr, ℕ, ◌<◌, Has, ◌⊆◌, ◌∩◌, below, ext, has_cut, cut_left, cut_right}
use Rattle.splitting.proofs.Prelude.{subset_trans, AnswerSet, supported, Supported, Units, Edge, GivenFree, Passes, own, heads, input_heads, own_has}
use Rattle.splitting.proofs.Prelude.{heads_own, heads_input, input_given, input_edge, own_apart, Listed}
use Rattle.splitting.proofs.UnitCuts.{numbers, number_held, cut_inner, cut_within}
use Rattle.splitting.proofs.Words.{Input, listed_words, words_listed}

-- M is in the list of u, asked of M alone
pub record Member (S : Units) (u M : ℕ) : Type 0 where
  pub given_up : S.given ⊆ M
  pub within : M ⊆ heads S u
  pub inputs : (v : ℕ) → Edge S u v → Listed S v (M ∩ heads S v)
  pub answer : AnswerSet S.program (S.unit u ∩ below S.rules) (M ∩ input_heads S u) M

-- an answer set of u's rules has only own head atoms of u and facts
pub unit_supported : (S : Units) (u J M a : ℕ) → u < S.units → AnswerSet S.program (numbers S u) J M → Has M a
    → Has J a ⊎ Has (own S u) a
unit_supported S u J M a l s h = go (supported S.program (numbers S u) J M a s h)
  where
    go : Supported S.program (numbers S u) J a → Has J a ⊎ Has (own S u) a
    go (inl j) = inl j
    go (inr t) = inr (own_has S u t.0 a (number_held S u t.0 l t.1) t.2)

heads_in_input : (S : Units) (u v : ℕ) → Edge S u v → heads S v ⊆ input_heads S u
heads_in_input S u v e = record { each = λ a. input_edge S u v a e }

member_listed : (S : Units) (u M : ℕ) → u < S.units → Member S u M → Listed S u M
member_listed S u M l m =
    listed_words S l
    (record {
      given_up = record { each = λ a g. has_cut M (input_heads S u) (m.given_up.each a g) (input_given S u a g) };
      within = cut_within M (input_heads S u);
      inputs = λ v e. subst (λ (x : ℕ). Listed S v x)
          (sym (cut_inner M (input_heads S u) (heads S v) (heads_in_input S u v e))) (m.inputs v e);
    })
    m.answer

module _ (S : Units) (pass : Passes S) (free : GivenFree S) (u : ℕ) (l : u < S.units) where
  -- "for some input J": there is no other
  input_is : (J M : ℕ) → J ⊆ input_heads S u → AnswerSet S.program (numbers S u) J M → J ≡ M ∩ input_heads S u
  input_is J M w s =
      ext J (M ∩ input_heads S u) (λ a j. has_cut M (input_heads S u) (s.model.facts_up.each a j) (w.each a j))
      (λ a p. go a (cut_right M (input_heads S u) p) (unit_supported S u J M a l s (cut_left M (input_heads S u) p)))
    where
      go : (a : ℕ) → Has (input_heads S u) a → Has J a ⊎ Has (own S u) a → Has J a
      go a i (inl j) = j
      go a i (inr o) = absurd ((own_apart S pass free u l).none a o i)

  member_within : (J M : ℕ) → J ⊆ input_heads S u → AnswerSet S.program (numbers S u) J M → M ⊆ heads S u
  member_within J M w s = record { each = λ a h. go a (unit_supported S u J M a l s h) }
    where
      go : (a : ℕ) → Has J a ⊎ Has (own S u) a → Has (heads S u) a
      go a (inl j) = heads_input S u a l (w.each a j)
      go a (inr o) = heads_own S u a o

  of_input : (J M : ℕ) → Input S u J → AnswerSet S.program (numbers S u) J M → Member S u M
  of_input J M i s = record {
    given_up = subset_trans i.given_up s.model.facts_up;
    within = member_within J M i.within s;
    inputs = λ v e. subst (λ (x : ℕ). Listed S v x)
        (ap (λ (x : ℕ). x ∩ heads S v) (input_is J M i.within s)
        ∙ cut_inner M (input_heads S u) (heads S v) (heads_in_input S u v e))
        (i.inputs v e);
    answer = subst (λ (x : ℕ). AnswerSet S.program (numbers S u) x M) (input_is J M i.within s) s;
  }

  pub listed_member : (M : ℕ) → Listed S u M ↔ Member S u M
  listed_member M = (λ h. let t = words_listed S l h in of_input t.0 M t.1 t.2, member_listed S u M l)
