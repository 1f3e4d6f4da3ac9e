-- How the answers of a constant's cursor report its fault.
use Rattle.std.proofs.Common.{◌≡◌, Some, None, Ok, Err, refl}
use Rattle.ppdb_base.specs.declared.fault.BlobFault.{BlobFault}
use Rattle.type_blobs.specs.declared.constant.Constant.{Constant}
use Rattle.type_blobs.specs.ConstantReading.{ConstantEnd, body, invalid_body, invalid_modifier, fault_of, modifier_fault, body_answer, shown_body}

pub ends_in_modifier : (end : ConstantEnd) (fault : BlobFault) → Some fault ≡ modifier_fault end → fault_of end ≡ Some fault
ends_in_modifier (body b) fault e = absurd cc
ends_in_modifier (invalid_body f) fault e = absurd cc
ends_in_modifier (invalid_modifier f) fault e = cc

pub ends_in_body : (constant : Constant) (end : ConstantEnd) → shown_body (Ok constant) ≡ body_answer end → fault_of end ≡ None
ends_in_body constant (body b) e = refl
ends_in_body constant (invalid_body f) e = absurd cc
ends_in_body constant (invalid_modifier f) e = absurd cc

pub ends_in_fault : (fault : BlobFault) (end : ConstantEnd) → shown_body (Err fault) ≡ body_answer end → fault_of end ≡ Some fault
ends_in_fault fault (body b) e = absurd cc
ends_in_fault fault (invalid_body f) e = cc
ends_in_fault fault (invalid_modifier f) e = cc
