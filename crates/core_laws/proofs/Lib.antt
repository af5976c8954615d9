mod Rows
mod Columns
pub mod New
pub mod Runs
pub mod Keys
pub mod SortedRuns
pub mod LevelLists
mod Middle
mod TableParts
mod PickCases
mod PickedJobs
mod PickedRuns
mod Falls
mod OutputsExist
mod JobRow
mod IngestRow
mod Cuts
mod CanInstall
pub mod StepsExist
pub mod Lists
mod JointRange
mod InstalledLevels
mod JobsBeside
mod JobsKeepReads
mod Members
mod AfterInstall
mod CompactedOwn
mod FlushedOwn
mod PickedOwn
pub mod JobEvents
mod TwoJobs
mod ColumnsAfter
mod InstallEvents
mod ByPlace
pub mod NamedLists
pub mod ById
mod FamilyPair
pub mod WrittenFamily
mod ChangesSound
mod Outline
mod PlainEvents
pub mod ToldByColumns
pub mod ReopenedFamily
pub mod CrashEvent
pub mod FamilyEvents
mod TurnEvents
pub mod Steps
mod LevelRule
mod FileColumns
mod FileJobs
mod FileReads
mod FileSound
mod FileFields
mod FileLevels
mod FileLift
mod FileStands
mod FileFresh
mod FileChanges
mod FileStep
mod CommitEnds
mod NoneLeft
pub mod CommitBegins
mod Causes
mod PlacedFile
mod PlacedPlan
mod CommitReceived
mod CommitEvent
mod CauseNames
mod RefusedLevel
mod RefusedNumber
mod OfState
pub mod Bounds
pub mod StateContents
pub mod Drafts
mod ByKey
