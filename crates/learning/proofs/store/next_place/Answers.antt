-- Within the ring, or above it.
use Rattle.learning.proofs.Face.{next_low, next_high}
use Rattle.learning.proofs.store.next_place.Goals as goal

pub returns-then-place-lt-RING : goal.returns-then-place-lt-RING
returns-then-place-lt-RING c = next_low _ c.if-place-lt-RING.true

pub returns : goal.returns
returns c = next_high _ c.if-place-lt-RING.false
