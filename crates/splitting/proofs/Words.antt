-- Lists through the words of head atoms: an input is what the word `input_heads` has at most, and its cut to H(v) is the cut of the words.
use Rattle.splitting.proofs.Prelude.{subst, ◌↔◌, ℕ, ◌<◌, Has, ◌⊆◌, ◌∩◌, below, subset_refl, subset_trans, subset_antisym, collects_same, AnswerSet}
use Rattle.splitting.proofs.Prelude.{Units, Edge, InputAtom, given_input, head_input, heads, input_heads, collects_input_atoms, cut_heads, Listed}
use Rattle.splitting.proofs.Prelude.{listed}

-- J is an input of u
pub record Input (S : Units) (u J : ℕ) : Type 0 where
  pub given_up : S.given ⊆ J
  pub within : J ⊆ input_heads S u
  pub inputs : (v : ℕ) → Edge S u v → Listed S v (J ∩ heads S v)

module _ (S : Units) {u M : ℕ} (l : u < S.units) where
  pub listed_words : {J : ℕ} → Input S u J → AnswerSet S.program (S.unit u ∩ below S.rules) J M → Listed S u M
  listed_words {J} i s =
      listed {cut = λ v. J ∩ heads S v} i.given_up (λ a h. (collects_input_atoms S u l).each a (i.within.each a h))
      (λ v e. cut_heads S v J e.is_predecessor) i.inputs s

  pub words_listed : Listed S u M → (J : ℕ) × Input S u J × AnswerSet S.program (S.unit u ∩ below S.rules) J M
  words_listed (listed {J = J} g w c f s) = (
    J,
    record {
      given_up = g;
      within = record { each = λ a h. (collects_input_atoms S u l).all a (w a h) };
      inputs = λ v e. subst (Listed S v) (collects_same (c v e) (cut_heads S v J e.is_predecessor)) (f v e);
    },
    s,
  )

-- given atoms belong to "every list entry" (02, S-1)
pub entry_given : {S : Units} {u M : ℕ} → Listed S u M → S.given ⊆ M
entry_given (listed g w c f s) = subset_trans g s.model.facts_up

-- "A unit without predecessors has the one input 0": the given atoms
pub first_list : (S : Units) (u M : ℕ) → ((v : ℕ) → ¬ Edge S u v)
    → Listed S u M ↔ AnswerSet S.program (S.unit u ∩ below S.rules) S.given M
first_list S u M none = (there, back)
  where
    given : (a : ℕ) → InputAtom S u a → Has S.given a
    given a (given_input g) = g
    given a (head_input {v = v} e h) = absurd (none v e)

    there : Listed S u M → AnswerSet S.program (S.unit u ∩ below S.rules) S.given M
    there (listed {J = J} g w c f s) =
        subst (λ (x : ℕ). AnswerSet S.program (S.unit u ∩ below S.rules) x M)
        (subset_antisym (record { each = λ a h. given a (w a h) }) g) s

    back : AnswerSet S.program (S.unit u ∩ below S.rules) S.given M → Listed S u M
    back s = listed {cut = λ v. 0} subset_refl (λ a g. given_input g) (λ v e. absurd (none v e)) (λ v e. absurd (none v e)) s
