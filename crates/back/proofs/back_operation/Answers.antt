-- `back::back_operation` meets its contract. Assumes nothing.
use Rattle.back.specs.Noted.{back_remove, back_insert, back_replace, back_drop, back_set}
use Rattle.back.proofs.back_operation.Goals as goal

pub returns-then-operation-eq-INSERT : goal.returns-then-operation-eq-INSERT
returns-then-operation-eq-INSERT c = search back_remove

pub returns-then-operation-eq-REMOVE : goal.returns-then-operation-eq-REMOVE
returns-then-operation-eq-REMOVE c = search back_insert

pub returns-then-operation-eq-REPLACE : goal.returns-then-operation-eq-REPLACE
returns-then-operation-eq-REPLACE c = search back_replace

pub returns-then-adds : goal.returns-then-adds
returns-then-adds c = search back_drop

pub returns : goal.returns
returns c = search back_set
