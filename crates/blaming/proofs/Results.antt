-- The results for the bytes of a plan: the definition and what is said of the plan, from what reading, the next position and few_constraints gave.
use Rattle.blaming.proofs.Prelude.{◌≡◌, refl, sym, ap, ◌∙◌, List, ℕ, Plan, reading, refused_answered, accepted_answered, read_fits}
use Rattle.blaming.proofs.Prelude.{next_in, Blames, Positionless, LeastOrBlamed, with_position, without, held_in, blame_in, Blamed, Position, Held}
use Rattle.blaming.proofs.Prelude.{Option, None, Some, Err, Ok}
use Rattle.plan.specs.declared.fault.Fault.{Fault}
use Rattle.reading.specs.Reading.{accepted, refused}
use Rattle.plan_meaning.specs.Settled.{Settles}
use Rattle.finding.specs.Least.{Behind, from_start, LeastOf, least, none}
use Rattle.stepping.proofs.Nexts.{follows_only, least_follows, next_in_follows}
use Rattle.blaming.proofs.BlameMeaning.{blame_means}

-- ---- the definition by cases

blame_position : (p : Plan) {M : ℕ} → next_in p None ≡ Some M → blame_in p ≡ Position M
unfolding blame_in
blame_position p e = rw (e, blame_in)

blame_none : (p : Plan) → next_in p None ≡ None → blame_in p ≡ Held (held_in p)
unfolding blame_in
blame_none p e = rw (e, blame_in)

-- ---- what the next position from the start tells

pub nobody_settles : {p : Plan} → LeastOf (λ N. Settles p N × Behind None N) None → Positionless p
nobody_settles (none n) = record { none = λ N s. n N (s, from_start) }

least_says : {p : Plan} {M : ℕ} → LeastOf (λ N. Settles p N × Behind None N) (Some M) → LeastOrBlamed p (Ok (Position M))
least_says (least q l) = with_position q.0 (λ N s. l N (s, from_start))

-- ---- the results of the code

module _ (bytes : List ℕ) where
  pub refused_blamed : {f : Fault} → refused f ≡ reading bytes → Blamed bytes (Err f)
  refused_blamed read = record { answered = refused_answered bytes read refl refl; meaning = blame_means bytes }

  module _ {p : Plan} (read : accepted p ≡ reading bytes) where
    next_is : {w : Option ℕ} → LeastOf (λ N. Settles p N × Behind None N) w → next_in p None ≡ w
    next_is found = let e = follows_only (next_in_follows p (read_fits bytes read) None) (least_follows found) in cc

    pub position_blamed : {M : ℕ} → LeastOf (λ N. Settles p N × Behind None N) (Some M) → Blamed bytes (Ok (Position M))
    position_blamed found = record {
      answered = accepted_answered bytes read refl (ap Ok (sym (blame_position p (next_is found)))) (least_says found);
      meaning = blame_means bytes;
    }

    pub held_blamed : {word : ℕ} → LeastOf (λ N. Settles p N × Behind None N) None → (word ≡ held_in p) × Blames p word → Blamed bytes (Ok (Held word))
    held_blamed found h = record {
      answered = accepted_answered bytes read refl (ap Ok (ap Held h.0 ∙ sym (blame_none p (next_is found)))) (without (nobody_settles found) h.1);
      meaning = blame_means bytes;
    }
