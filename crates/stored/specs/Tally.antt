-- What a replay counts, and what it answers. Assumes nothing.
use Rattle.std.specs.Prelude.{cond, Bool, List, ℕ, ◌+◌, ◌%◌, ◌^◌, ◌++◌, eqb, Option, None, Some, Result, Ok, Err, ⊤, codes}
use Rattle.std.specs.Fmt.{decimal}
use Rattle.stored.specs.declared.tally.Counts.{Counts}
use Rattle.stored.specs.declared.tally.Fault.{Fault}
use Rattle.stored.specs.declared.tally.Fault.TheVariants as fault
use Rattle.stored.specs.declared.tally.Failure.{Failure}
use Rattle.stored.specs.declared.tally.Failure.TheVariants as failure

-- no case
abbrev pub none : Counts
none = record { compared = 0; differ = 0 }

-- one case
abbrev pub one : Bool → Counts
one agrees = record { compared = 1; differ = cond agrees 0 1 }

-- both, counted modulo 2^64
abbrev pub plus : Counts → Counts → Counts
plus a b = record { compared = (a.compared + b.compared) % 2 ^ 64; differ = (a.differ + b.differ) % 2 ^ 64 }

-- the first record that differs: the earlier one, or this one if cases of it differ
abbrev pub first_of : Option ℕ → ℕ → ℕ → Option ℕ
first_of (Some first) differ record-number = Some first
first_of None differ record-number = cond (eqb differ 0) None (Some record-number)

-- what a replay answers: it fails where the cases end wrongly, where they are not as many as the last record says, and where one differs
abbrev pub verdict_of : ℕ → Option ℕ → Result ℕ Fault → Result ⊤ Failure
verdict_of records first (Err why) = Err (failure.Cases records why)
verdict_of records None (Ok written) = cond (eqb records written) (Ok tt) (Err (failure.Cases records fault.Miscounted))
verdict_of records (Some first) (Ok written) = cond (eqb records written) (Err (failure.FirstAt first)) (Err (failure.Cases records fault.Miscounted))

-- the text of what was counted
abbrev pub counts_text : Counts → List ℕ
counts_text c = decimal c.compared ++ (codes " compared, " ++ (decimal c.differ ++ codes " differ"))

-- the text of a fault
abbrev pub fault_text : Fault → List ℕ
fault_text fault.EndsEarly = codes "the file ends early"
fault_text fault.UnknownKind = codes "a record of no known kind"
fault_text fault.BadPayload = codes "a payload that ends early or is too long"
fault_text fault.BadEntries = codes "entries that end early or are too many"
fault_text fault.Miscounted = codes "not as many as were written"

-- the text of a failure
abbrev pub failure_text : Failure → List ℕ
failure_text (failure.Unread name) = codes "FAILED: cannot be read: " ++ name.now
failure_text (failure.Cases records why) = codes "FAILED: cases, after " ++ (decimal records ++ (codes " records: " ++ fault_text why))
failure_text (failure.FirstAt first) = codes "FAILED: first at record " ++ decimal first
