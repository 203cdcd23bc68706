-- Demand 2's first half: for every plan that reads the answer is yes exactly if the position is an answer set of all its rules
-- as one set, with the given atoms as facts; and a position with an atom that is in no head and not given gets the answer no.
use Rattle.judge.proofs.Prelude.{◌≡◌, refl, ap, sym, ◌∙◌, Bool, true, false, true≢false, List, ◌⊎◌, inl, inr, ℕ, ◌<◌, arith, length, Has, below}
use Rattle.judge.proofs.Prelude.{Decides, decided_true, decided_false, lent, Lent, Fitting, reading, record_fits, asked_accepted, accepted_answered}
use Rattle.judge.proofs.Prelude.{read_fits, Plan, Accepted, accepted, Settles, settled, JudgeAnswer, is_yes, settled_in, judged, Judged}
use Rattle.atoms.proofs.Sets.{below_lt, lt_of_has}
use Rattle.answer_sets.proofs.JudgedSets.{decides_answer_set}
use Rattle.answer_sets.proofs.Support.{Supported, supported}
use Rattle.plan.specs.Limits.{MAX_RULES, PROGRAM_WORDS}
use Rattle.std.specs.Prelude.{Ok, Err}

-- ---- the whole program of a record

-- each rule of the record is among its words
pub whole_lent : (p : Plan) (which : ℕ) → Fitting p → length p.rules ≡ PROGRAM_WORDS → which ≡ below p.rule_count
    → Lent p.rules which
whole_lent p which f l e =
    record { each = λ r h. let k : r < p.rule_count = below_lt p.rule_count (rw e at h) in omega (arith, f.rules_fit) }

pub decides_settled : (p : Plan) (M : ℕ) → Fitting p → Decides (Settles p M) (settled p M)
decides_settled p M f =
    decides_answer_set (lent p.rules) (below p.rule_count) p.once.given.word M
    (lt_of_has (below p.rule_count) MAX_RULES (λ r h. let k : r < p.rule_count = below_lt p.rule_count h in omega (arith, f.rules_fit)))

-- ---- the answer

-- what the definition says of every plan that reads
pub judged_decides : (bytes : List ℕ) (position : ℕ) → (reading bytes).outcome ≡ Accepted
    → Decides (Settles (reading bytes).plan position) (is_yes (judged bytes position))
judged_decides bytes position e =
    rw (asked_accepted Err (settled_in position) bytes e)
    (decides_settled (reading bytes).plan position (record_fits bytes))

-- the answer of the code, from what reading and the test gave
pub test_judged : {bytes : List ℕ} {p : Plan} {t : Bool} (position : ℕ) → accepted p ≡ reading bytes → t ≡ settled p position
    → Judged bytes position (Ok t)
test_judged {bytes} {p} position read e =
    accepted_answered bytes read refl (ap Ok e) (rw e (decides_settled p position (read_fits bytes read)))

-- ---- the theorems

-- the atom is given or in the head of one of the plan's rules
abbrev pub Headed : Plan → ℕ → Type 0
Headed p a = Has p.once.given.word a ⊎ ((r : ℕ) × (r < p.rule_count) × Has ((lent p.rules).head r) a)

yes_is_settled : (answer : JudgeAnswer) → is_yes answer ≡ true → answer ≡ Ok true
yes_is_settled (Ok settled) e = ap Ok e
yes_is_settled (Err f) e = absurd (true≢false (sym e))

-- for every plan that reads: settled exactly if the position is an answer set of all its rules as one set
pub settled_exactly : (bytes : List ℕ) (position : ℕ) → (reading bytes).outcome ≡ Accepted
    → (judged bytes position ≡ Ok true → Settles (reading bytes).plan position)
    × (Settles (reading bytes).plan position → judged bytes position ≡ Ok true)
settled_exactly bytes position e =
    let d = judged_decides bytes position e in
    (λ s. d.yes (ap is_yes s), λ s. yes_is_settled (judged bytes position) (decided_true d s))

-- only given atoms and head atoms are up
pub settled_headed : (p : Plan) (M a : ℕ) → Settles p M → Has M a → Headed p a
settled_headed p M a s h = go (supported (lent p.rules) (below p.rule_count) p.once.given.word M a s h)
  where
    go : Supported (lent p.rules) (below p.rule_count) p.once.given.word a → Headed p a
    go (inl fact) = inl fact
    go (inr r) = inr (r.0, below_lt p.rule_count r.1, r.2)

-- "A position with an atom that is in no head gets the answer no.", from S-1 on: "in no head" and not given
pub headless_not_settled : (bytes : List ℕ) (position a : ℕ) → (reading bytes).outcome ≡ Accepted → Has position a
    → ¬ Headed (reading bytes).plan a → judged bytes position ≡ Ok false
headless_not_settled bytes position a e h n =
    let not_settled : ¬ Settles (reading bytes).plan position = λ s. n (settled_headed (reading bytes).plan position a s h) in
    asked_accepted Err (settled_in position) bytes e
    ∙ ap Ok (decided_false (decides_settled (reading bytes).plan position (record_fits bytes)) not_settled)
