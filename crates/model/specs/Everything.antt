-- One name that opens every definition of the model, for facts that are computed. Assumes nothing.
use Rattle.std.specs.Prelude.{ℕ}
use Rattle.std.specs.Float.Ieee.{size, of_bits, of_fields, odd, lt, le}
use Rattle.model.specs.Lists.{concat, ascending, least, firsts, index_of, same_list, first_no}
use Rattle.model.specs.Values.{is_viewer, limits_in, code, same_point, finite_bits, finite, no_point, no_dart, no_block}
use Rattle.model.specs.Text.{bytes, is_digit, digits, decimal, third_text}
use Rattle.model.specs.Cells.{around, cycle, reach, volume, ring, vertex, faces, vertices, vertex_number, dart_at, previous_in, volume_in, faces_in, volume_starts, labels, labels_along, least_label, labelled}
use Rattle.model.specs.Sound.{dart_in_range, ranges_right, coordinates_finite, link_right, links_right, third_right, thirds_right, labels_right, points_agree, sound_block, block_checks, block_at, all_darts, numbered_from, blocks_right, serials_distinct, paired, labels_paired, same_across, points_across, made_before, makers_right, mesh_checks, sound_mesh}
use Rattle.model.specs.Image.{dart_words, image, third_in, is_image, memory_checks, new_block}
use Rattle.model.specs.Layouts.{groups, read_groups, group_below, group, serial, group_counts, group_count, low_bytes, read_bytes, coordinate, ◌⊗◌, ◌⊕◌, as_type, such_that, at_most, exactly, put_all, get_all, times, counted, whole, framed, unframed}
use Rattle.model.specs.Messages.{point, label, face_dart, part2, part3, size_all, size_at, part4, part1, transfer, update, message_in, critical_link, third_put, third, a_dart, file}
use Rattle.model.specs.Pages.{block_of, number_column, third_column, first_line, row_line, blank_line, line_of, page_count, page, pages_text, numbers_from, third_from, row_from, paged_from, paged_ok, pages, paged_checks}
use Rattle.model.specs.Departure.{sewn_faces, departure_checks, part3_from, transfer_of, least_labels, update_for, updates_of, messages, released}
use Rattle.model.specs.Links.{pairs_once, vertex_pairs, placed, relink, label_links, label_faces}
use Rattle.model.specs.Arrival.{sides_of, sides, reverses, opposite_of, new_dart, new_darts, placed_faces, face_from, part2_links, part3_links, part4_links, critical_links, transfer_links, received, serials_new, faces_ordered, pairs_right, one_volume, vertices_right, volume_right, indices_right, points_meet, part2_right, part2_apart, label_new, labels_new, parts_right, receive_checks, face_with, names_face, update_right, redirect_checks, update_links, redirected}
use Rattle.model.specs.Balance.{lt_bits, le_bits, le_point, oracle_right, picks, picked, counts, mean, surpluses, squared_counts, differences, candidates, can_move, is_level, next_of, balance_of, numbered_oracle}
use Rattle.model.specs.Calls.{asked, storing, writing, empty, read_file, save_file, write_pages, read_pages, send, receive, release, redirect, memories, mesh_lent, whole_mesh_checks, check_mesh, next_move, next_move_by_number}
use Rattle.model.specs.UndividedRun.{other_with, whole_map, holder, start, cell, inner_faces, request_checks, after_move, undivided, round_checks}
use Rattle.model.specs.DividedRun.{called, done, run_steps, cut, messages_in, addressee, sent_messages, round}
use Rattle.model.specs.Listing.{dart_line, header_line, listing, listed}

-- opens every definition
unfoldable pub everything : ℕ
unfolding concat ascending least firsts index_of same_list first_no is_viewer limits_in code same_point finite_bits finite no_point no_dart no_block around cycle reach volume ring vertex faces vertices vertex_number dart_at previous_in volume_in faces_in volume_starts labels labels_along least_label labelled dart_in_range ranges_right coordinates_finite link_right links_right third_right thirds_right labels_right points_agree sound_block block_checks block_at all_darts numbered_from blocks_right serials_distinct paired labels_paired same_across points_across made_before makers_right mesh_checks sound_mesh dart_words image third_in is_image memory_checks new_block groups read_groups group_below group serial group_counts group_count low_bytes read_bytes coordinate ◌⊗◌ ◌⊕◌ as_type such_that at_most exactly put_all get_all times counted whole framed unframed point label face_dart part2 part3 size_all size_at part4 part1 transfer update message_in critical_link third_put third a_dart file block_of number_column third_column first_line row_line blank_line line_of page_count page pages_text numbers_from third_from row_from paged_from paged_ok pages paged_checks sewn_faces pairs_once vertex_pairs departure_checks placed part3_from transfer_of least_labels update_for updates_of messages relink label_links label_faces released sides_of sides reverses opposite_of new_dart new_darts placed_faces face_from part2_links part3_links part4_links critical_links transfer_links received serials_new faces_ordered pairs_right one_volume vertices_right volume_right indices_right points_meet part2_right part2_apart label_new labels_new parts_right receive_checks face_with names_face update_right redirect_checks update_links redirected lt_bits le_bits le_point oracle_right picks picked counts mean surpluses squared_counts differences candidates can_move is_level next_of balance_of numbered_oracle asked storing writing empty read_file save_file write_pages read_pages send receive release redirect memories mesh_lent whole_mesh_checks check_mesh next_move next_move_by_number called done run_steps cut messages_in addressee sent_messages round other_with whole_map holder start cell inner_faces request_checks after_move undivided round_checks bytes is_digit digits decimal third_text dart_line header_line listing listed size of_bits of_fields odd lt le
everything = 0
