-- Steps run again: what belongs to the list and completes no learnt pair survives each of them.
use Rattle.learning.proofs.Prelude.{◌≡◌, sym, subst, ◌∙◌, List, ℕ, ◌<◌, Narrows, State, narrows_for, Avoids, PAIRS, pair_at, AvoidsAll, Keeps}
use Rattle.learning.proofs.Prelude.{SamePairs, Heeds, Lifted}
use Rattle.learning.proofs.Stores.{keeps_trans, keeps_for, keeps_same}

module _ {K : ℕ → Type 0} {memory : List ℕ} {s t : State} where
  pub heeds_narrows : Narrows K s t → Narrows (Heeds K memory) s t
  heeds_narrows n = narrows_for (λ N h. h.has) n

  pub pairs_narrow : Narrows (AvoidsAll memory) s t → Narrows (Heeds K memory) s t
  pairs_narrow n = narrows_for (λ N h. h.avoids) n

-- who avoids all pairs avoids each
avoids_one : {memory : List ℕ} {p : State} (i : ℕ) → i < PAIRS → p ≡ pair_at memory i → (N : ℕ) → AvoidsAll memory N → Avoids p N
avoids_one i l e N a = subst (λ (x : State). Avoids x N) (sym e) (a.each i l)

pub pair_narrows : {memory : List ℕ} {p s t : State} (i : ℕ) → i < PAIRS → p ≡ pair_at memory i → Narrows (Avoids p) s t
    → Narrows (AvoidsAll memory) s t
pair_narrows i l e n = narrows_for (avoids_one i l e) n

-- a pair of the memory may be copied, and words behind the pairs noted
pub copied_keeps : {before memory after : List ℕ} {p : State} (i : ℕ) → i < PAIRS → p ≡ pair_at before i → Keeps (Avoids p) before memory
    → SamePairs memory after → Keeps (AvoidsAll before) before after
copied_keeps i l e k m = keeps_trans (keeps_for (avoids_one i l e) k) (keeps_same m)

-- a pair that was learnt before it was lifted
pub lifted_after : {K : ℕ → Type 0} {n r : State} {before memory after : List ℕ} → Keeps (Avoids n) before memory → Lifted K n memory after r
    → Lifted K n before after r
lifted_after k l = record {
  keeps = record {
    same_length = l.keeps.same_length ∙ k.same_length;
    keeps = λ N q a. l.keeps.keeps N q (k.keeps N q.1 a);
  };
  leads = record {
    avoided = λ N h a. l.leads.avoided N (record { has = h.has; avoids = k.keeps N a h.avoids }) a;
  };
}
