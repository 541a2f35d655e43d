use Rattle.std.proofs.Common.{rules}
use Rattle.trial.proofs.Harmless.{begun, trial_safe, certified_safe}
use Rattle.trial.proofs.trying.trial.Goals as goal

pub returns-clause-performs : goal.returns-clause-performs
returns-clause-performs g c = search (rules, begun)

pub returns-clause-safe : goal.returns-clause-safe
returns-clause-safe g c =
    λ certified pages. trial_safe (certified_safe c.args.passed.now certified) (record { sound = g.M.Memory.sound c.args.memory.now; pages = pages }) (returns-clause-performs g c)
