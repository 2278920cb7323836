-- The theorems stand in Relaxing, that no answer tells of a commit in Commits, and that our own lists are vetted with a
-- yes in OwnPages; the others have the laws that these rest on, by topic.
pub mod Relaxing
pub mod Commits
pub mod OwnPages
pub mod Heaviest
pub mod Bound
pub mod Floors
pub mod Sublists
