-- One position: whether it belongs to the list, and what it adds there if it is offered.
use Rattle.searching.proofs.Prelude.{◌≡◌, refl, sym, ap, ◌∙◌, subst, Bool, true, false, true≢false, false≢true, List, ℕ, ◌<◌, ◌^◌, ATOMS, ◌∩◌, Decides}
use Rattle.searching.proofs.Prelude.{CutOf, lent, decides_answer_set, State, AnswersInputs, Nogood, Remembers, joins, Belongs, Job}
use Rattle.answer_sets.specs.Test.{answer_set}
use Rattle.atoms.proofs.Tests.{decides}
use Rattle.searching.proofs.Prelude.{Ordered, Inserted, Gathered, Grown, Offered, Witnessed, met, none, Found, Some, None}
use Rattle.searching.proofs.Gathered.{gathered_insert, gathered_same, gathered_iff}
use Rattle.searching.proofs.Witnesses.{grown_for}

-- ---- belonging

module _ (rules table counts heads : List ℕ) (unit : Job) where
  pub not_joined : (M : ℕ) → joins table counts heads unit.predecessors M ≡ false
      → Decides (Belongs rules table counts heads unit M) false
  not_joined M e =
      decides false (λ f. absurd (false≢true f)) (λ b. absurd (true≢false (sym b.joined ∙ e)))

  pub joined_answers : (M : ℕ) (r : Bool) → M < 2 ^ ATOMS → joins table counts heads unit.predecessors M ≡ true
      → r ≡ answer_set (lent rules) unit.rules (M ∩ unit.inputs) M → Decides (Belongs rules table counts heads unit M) r
  joined_answers M r w j e =
      decides r (λ t. record { word = w; joined = j; answers = sym e ∙ t }) (λ b. e ∙ b.answers)

  -- who belongs is an answer set of the unit's rules
  pub belongs_answers : unit.rules < 2 ^ ATOMS → (M : ℕ) → Belongs rules table counts heads unit M
      → AnswersInputs rules unit.rules unit.inputs M
  belongs_answers fits M b = record { answer = (decides_answer_set (lent rules) unit.rules (M ∩ unit.inputs) M fits).yes b.answers }

-- ---- one position

module _ {K : ℕ → Type 0} where
  pub offer_none : (list : List ℕ) (count shown position : ℕ) {memory : List ℕ} {e : State} {r : Found} → Ordered list count
      → Decides (K position) false → r ≡ record { count = count; nogood = e; witness = None } → Remembers K memory → Nogood K e
      → Gathered (Grown list count (CutOf shown (Offered K position))) list r.count
      × (Witnessed (Offered K position) r.witness × (Remembers K memory × Nogood K r.nogood))
  offer_none list count shown position o d f m k =
      rw f (gathered_same list count (CutOf shown (Offered K position)) o (λ x c. not_here c.whole c.wanted), (none not_here, (m, k)))
    where
      not_here : (M : ℕ) → ¬ Offered K position M
      not_here M w = d.no refl (subst K w.is w.belongs)

  pub offer_one : (list : List ℕ) (count shown position : ℕ) (after : List ℕ) {memory : List ℕ} {cut n : ℕ} {e : State} {r : Found}
      → Ordered list count → K position → cut ≡ position ∩ shown → Inserted list count cut after n
      → r ≡ record { count = n; nogood = e; witness = Some position } → Remembers K memory → Nogood K e
      → Gathered (Grown list count (CutOf shown (Offered K position))) after r.count
      × (Witnessed (Offered K position) r.witness × (Remembers K memory × Nogood K r.nogood))
  offer_one list count shown position after {cut = cut} {n = n} o b c i f m k =
      rw f (gathered_iff (grown_for list count into) (grown_for list count from) (gathered_insert list count cut after n o i), (met here, (m, k)))
    where
      here : Offered K position position
      here = record { is = refl; belongs = b }

      into : (x : ℕ) → x ≡ cut → CutOf shown (Offered K position) x
      into x e = record { whole = position; wanted = here; is = e ∙ c }

      from : (x : ℕ) → CutOf shown (Offered K position) x → x ≡ cut
      from x w = w.is ∙ ap (λ (M : ℕ). M ∩ shown) w.wanted.is ∙ sym c
