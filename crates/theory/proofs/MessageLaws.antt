-- The layouts of messages are lawful. Assumes nothing.
use mathlib.Core.Path.{refl}
use mathlib.Core.Bool.{◌&&◌}
use mathlib.Core.List.{List}
use lib.Dec.{leb, ltb, eqb}
use borrow.Author.Tests.{eqb-true}
use Rattle.laws.proofs.Tests.{and_left, and_right}
use Rattle.model.specs.Layouts.{group, ◌⊗◌, ◌⊕◌, such_that, exactly}
use Rattle.model.specs.Messages.{point, label, face_dart, part2, part3, part4, part1, transfer, update, size_all, size_at, FaceDart}
use Rattle.theory.proofs.LayoutLaws.{Lawful, group_lawful, serial_lawful, coordinate_lawful, ⊗-lawful, ⊕-lawful, as_type_lawful, such_that_lawful, at_most_lawful, exactly_lawful, times_lawful, counted_lawful}

pub point_lawful : Lawful point
unfolding point
point_lawful = as_type_lawful _ _ _ (⊕-lawful _ _ coordinate_lawful (⊕-lawful _ _ coordinate_lawful coordinate_lawful)) (λ p. refl) (λ p o. refl)

pub label_lawful : Lawful label
unfolding label
label_lawful = as_type_lawful _ _ _ (⊕-lawful _ _ (at_most_lawful 15) (⊕-lawful _ _ group_lawful (at_most_lawful 4095))) (λ p. refl) (λ p o. refl)

face_dart_lawful : Lawful face_dart
unfolding face_dart
face_dart_lawful = as_type_lawful _ _ _ (⊕-lawful _ _ group_lawful serial_lawful) (λ p. refl) (λ p o. refl)

part2_lawful : Lawful part2
unfolding part2
part2_lawful = as_type_lawful _ _ _ (⊕-lawful _ _ label_lawful group_lawful) (λ p. refl) (λ p o. refl)

part3_lawful : Lawful part3
unfolding part3
part3_lawful = as_type_lawful _ _ _ (⊕-lawful _ _ group_lawful group_lawful) (λ p. refl) (λ p o. refl)

part4_lawful : (fs : List (List FaceDart)) → Lawful (part4 fs)
unfolding part4
part4_lawful fs = as_type_lawful _ _ _ (⊗-lawful _ _ (such_that_lawful group group_lawful (λ i. ltb i (size_all fs)))
    (λ i. ⊕-lawful _ _ (at_most_lawful 15) (times_lawful label label_lawful (size_at i fs)))) (λ p. refl) (λ p o. refl)

part1_lawful : Lawful part1
unfolding part1
part1_lawful = ⊕-lawful _ _ (exactly_lawful 1) (⊕-lawful _ _ (at_most_lawful 15) (⊕-lawful _ _ (at_most_lawful 15)
    (⊕-lawful _ _ (counted_lawful point point_lawful) (such_that_lawful _ (counted_lawful _ (counted_lawful _ face_dart_lawful)) (λ fs. leb 1 (size_all fs) && leb (size_all fs) 512)))))

pub transfer_lawful : Lawful transfer
unfolding transfer part1 ◌⊗◌ ◌⊕◌ such_that exactly
transfer_lawful =
    as_type_lawful _ _ _
    (⊗-lawful part1 _ part1_lawful
    (λ h. ⊕-lawful _ _ (counted_lawful part2 part2_lawful)
    (⊕-lawful _ _ (counted_lawful part3 part3_lawful) (counted_lawful _ (part4_lawful h.1.1.1.1)))))
    (λ p. refl)
    (λ p o. let one = eqb-true 1 p.0.0
    (and_right (group.ok p.0.0) _ (and_left (group.ok p.0.0 && eqb 1 p.0.0) _ (and_left (part1.ok p.0) _ o))) in
    λ i. ((one i, p.0.1), p.1))

pub update_lawful : Lawful update
unfolding update ◌⊗◌ ◌⊕◌ such_that exactly
update_lawful =
    as_type_lawful _ _ _
    (⊕-lawful _ _ (exactly_lawful 2)
    (⊕-lawful _ _ (at_most_lawful 15)
    (⊕-lawful _ _ (at_most_lawful 15) (⊕-lawful _ _ (at_most_lawful 15) (counted_lawful label label_lawful)))))
    (λ p. refl) (λ p o. let two = eqb-true 2 p.0 (and_right (group.ok p.0) _ (and_left (group.ok p.0 && eqb 2 p.0) _ o)) in λ i. (two i, p.1))
