use Rattle.std.proofs.Common.{refl}
use Rattle.named_maps.proofs.mixed.mixed.Goals as goal

-- the stack has these parts
pub returns-clause-forward : goal.returns-clause-forward
returns-clause-forward c = rw (
  c.new-2.ensures.count,
  c.new-2.ensures.inner,
  c.new.ensures.first,
  c.new.ensures.second,
  c.new-seen.ensures.inner,
  c.new-seen.ensures.by,
  c.three.ensures,
  c.bbm.ensures.forward,
  c.life2.ensures.forward,
  c.exchange.ensures.forward,
  c.exchange.ensures.backward,
) refl

pub returns-clause-backward : goal.returns-clause-backward
returns-clause-backward c = rw (
  c.new-2.ensures.count,
  c.new-2.ensures.inner,
  c.new.ensures.first,
  c.new.ensures.second,
  c.new-seen.ensures.inner,
  c.new-seen.ensures.by,
  c.three.ensures,
  c.bbm.ensures.backward,
  c.life2.ensures.backward,
  c.exchange.ensures.forward,
  c.exchange.ensures.backward,
) refl
