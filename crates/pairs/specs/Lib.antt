-- Pairs of a run of the old content and a run of the new one, as numbers: which number a pair has, and where a child leads from it.
pub mod Number
pub mod Leads
