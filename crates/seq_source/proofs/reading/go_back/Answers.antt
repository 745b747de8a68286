-- The source keeps its place, or is rewound once.
use Rattle.std.proofs.Common.{inl, inr, refl, arith}
use Rattle.seq_source.proofs.reading.go_back.Goals as goal

pub returns-in_err-rewind-in_default-clause-keeps : goal.returns-in_err-rewind-in_default-clause-keeps
returns-in_err-rewind-in_default-clause-keeps g c = let rewind = c.in_err-rewind-in_default.ensures in record { told = rewind.bytes; once = inl rewind.not_counted; later = rewind.later }

pub returns-in_ok-rewind-in_default-clause-keeps : goal.returns-in_ok-rewind-in_default-clause-keeps
returns-in_ok-rewind-in_default-clause-keeps g c = let rewind = c.in_ok-rewind-in_default.ensures in record { told = rewind.bytes; once = inr rewind.counted; later = rewind.later }

pub returns-in-Some-clause-keeps : goal.returns-in-Some-clause-keeps
returns-in-Some-clause-keeps g c = record { told = refl; once = inl refl; later = omega arith }
