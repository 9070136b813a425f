pub mod Concluding
mod Absences
mod FarItems
mod FirstBad
mod Held
mod Kept
pub mod ImageLines
mod Loops
mod LostNames
mod NotedChecks
mod NumberedLines
mod Replies
mod Requests
mod Asked
mod Texts
mod Unexplained
mod Chains
mod CutLines
pub mod Written
mod ObjectPrograms
pub mod OfFile
pub mod OnTheWay
mod Started
pub mod StatesTold
mod RankedLines
mod ToldReasons
mod TraceFiles
pub mod RightTold
