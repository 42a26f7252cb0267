use Rattle.rule_core.proofs.Accepted.{accepted_flows}
use Rattle.rule_core.proofs.Faultless.{flowing_accepted}
use Rattle.rule_core.proofs.laws.flow_laws.Goals as goal

pub returns-clause-accepted : goal.returns-clause-accepted
returns-clause-accepted c = accepted_flows

pub returns-clause-flowing : goal.returns-clause-flowing
returns-clause-flowing c = flowing_accepted
