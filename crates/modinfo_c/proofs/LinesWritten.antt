-- What was written is an answer or the name of a fault.
use Rattle.std.proofs.Common.{ℕ, List, Result, Ok, Err, MatchResult, String, Global, string_bytes}
use Rattle.modinfo.specs.Fault.{name_of_fault}
use Rattle.modinfo.specs.declared.fault.Fault.{Fault}
use Rattle.modinfo_c.specs.Call.{IsAnswered, IsLeft, answered, faulted}

pub answer_of : (IsAnswer : List ℕ → Type 0) (IsFault : Fault → Type 0) (line : Result (String Global) Fault)
    (before after : List ℕ) (needed status : ℕ)
    → MatchResult line (λ text. IsAnswer (string_bytes text)) IsFault
    → MatchResult line (λ text. IsLeft (string_bytes text) 0 before after needed status)
    (λ fault. IsLeft (name_of_fault fault) 1 before after needed status)
    → IsAnswered IsAnswer IsFault before after needed status
answer_of IsAnswer IsFault (Ok text) before after needed status is left = answered (string_bytes text) is left
answer_of IsAnswer IsFault (Err fault) before after needed status is left = faulted fault is left
