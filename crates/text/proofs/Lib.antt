-- Laws that only proofs of functions use.
mod PutPartLaws
mod WordReadLaws
