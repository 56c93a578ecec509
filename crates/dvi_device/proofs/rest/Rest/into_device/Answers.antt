use Rattle.dvi_device.proofs.Resumptions.{goes_on_as, passes_on, rest_got, whole_got}
use Rattle.dvi_device.proofs.rest.Rest.into_device.Goals as goal

pub returns-clause-parts : goal.returns-clause-parts
returns-clause-parts g c = rw (← c.self.view_is) (goes_on_as _ _ c.self.inside.sent.items c.self.inside.met c.self.invariant.0)

pub returns-clause-passes_on : goal.returns-clause-passes_on
returns-clause-passes_on g c = rw (← c.self.view_is) (passes_on _ _ c.self.inside.sent.items c.self.inside.met c.self.invariant.0)

pub returns-clause-rest_sent : goal.returns-clause-rest_sent
returns-clause-rest_sent g c = rw (← c.self.view_is) (λ whole bytes_written front. rest_got _ _ c.self.inside.sent.items c.self.inside.met whole c.self.invariant.0 bytes_written front)

pub returns-clause-whole : goal.returns-clause-whole
returns-clause-whole g c = rw (← c.self.view_is) (λ whole bytes_written front had. whole_got _ _ c.self.inside.sent.items c.self.inside.met whole c.self.invariant.0 bytes_written front had)
