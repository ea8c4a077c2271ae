mod AskedCases
mod Candidates
mod Clauses
mod Explained
mod Numbers
mod Sections
mod TextLines
mod Told
