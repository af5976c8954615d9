use Rattle.std.proofs.Common.{◌≡◌, ◌-◌, ◌≤◌, drop, map}
use Rattle.std.specs.Prelude.{flat_map}
use Rattle.st_base.specs.Levels.{levels_of}
use Rattle.st_version.specs.Held.{tables_of}
use Rattle.store_image.specs.Opens.{image_files_meeting, least_file}
use Rattle.opening_checks.specs.Least.{lesser_of}
use Rattle.opening_checks.proofs.meeting.least_meeting_in.Given as goal

-- the least of all is that so far, or that of the levels that are left
abbrev pub invariant-loop-level : goal.invariant-loop-level
invariant-loop-level g l = record {
  low : 1 ≤ l.level;
  high : l.level ≤ 7;
  least : least_file (flat_map image_files_meeting (drop 1 (map tables_of (levels_of l.levels))))
      ≡ lesser_of l.least (least_file (flat_map image_files_meeting (drop l.level (map tables_of (levels_of l.levels)))));
}

abbrev pub decreases-loop-level : goal.decreases-loop-level
decreases-loop-level g l = 7 - l.level
