use Rattle.st_core.proofs.jobs.+least_unused.Given as goal

-- proposed from what the function passes where it calls itself
abbrev pub decreases-least_unused : goal.decreases-least_unused
decreases-least_unused g l = l.tries
