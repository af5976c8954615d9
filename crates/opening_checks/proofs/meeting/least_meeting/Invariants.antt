use Rattle.std.proofs.Common.{◌≡◌, length, None}
use Rattle.std.specs.Option.{option_copied}
use Rattle.st_version.specs.Held.{tables_of}
use Rattle.opening_checks.specs.Least.{lesser_of}
use Rattle.opening_checks.specs.Meeting.{least_along}
use Rattle.opening_checks.proofs.meeting.least_meeting.Given as goal

-- the least of all is that so far, or that of the tables that are left
abbrev pub invariant-loop-first : goal.invariant-loop-first
invariant-loop-first g l =
    least_along None (tables_of l.tables) ≡ lesser_of l.least (least_along (option_copied l.reach) (tables_of l.left))

abbrev pub decreases-loop-first : goal.decreases-loop-first
decreases-loop-first g l = length l.left
