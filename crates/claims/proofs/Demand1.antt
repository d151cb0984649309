-- Demand 1, proved: each call and each door answers by its table, and a refusal changes nothing. Assumes nothing.
use mathlib.Core.Path.{refl, sym, subst}
use lib.ListN.{length}
use Rattle.checker.specs.Check.{check_of}
use Rattle.checker.specs.Table.{table}
use Rattle.checker.proofs.Table.{check_table}
use Rattle.build.specs.Calls.{start_of, add_of, file_of}
use Rattle.build.proofs.Table.{start_table_lem, add_table_lem, file_table_lem}
use Rattle.search.specs.Calls.{sitting_of, within_of}
use Rattle.search.proofs.Table.{sitting_table_lem, within_table_lem}
use Rattle.text.specs.Calls.{list_of}
use Rattle.text.proofs.Table.{list_table_lem}
use Rattle.short.specs.Short.{short_of}
use Rattle.short.proofs.Theorems.{short_table_lem}
use Rattle.host.proofs.Readings.{check_read, start_read, add_read, file_read, list_read, sitting_read, within_read}
use Rattle.claims.specs.Demand1.{VerdictBy, Calls1, Doors1, Demand1}
use Rattle.claims.proofs.Parts.{answer_is, buffer_is, told_is, codes_are, distances_are}
use Rattle.claims.proofs.ByTable.{verdict_by, front_by, both_by}
use Rattle.claims.proofs.ShortNumber.{short_numbers, number_by}

-- ---- the calls

pub calls_by_table : Calls1
unfolding check_of start_of add_of file_of sitting_of within_of short_of list_of
calls_by_table = record {
  check = λ image r e. subst (VerdictBy (table image)) (sym e) (verdict_by (check_table image));
  start = λ wells metric code profile buffer r buffer' e. front_by (start_table_lem wells metric code profile (length buffer)) _ _ (answer_is e) (buffer_is e);
  add = λ buffer stated code profile r buffer' e. front_by (add_table_lem buffer stated code profile) _ _ (answer_is e) (buffer_is e);
  file = λ image buffer r buffer' e. front_by (file_table_lem image (length buffer)) _ _ (answer_is e) (buffer_is e);
  sitting = λ image plates k codes distances r codes' distances' e.
      both_by (sitting_table_lem image (length plates) k (length codes) (length distances)) _ _ _ refl (told_is e) (codes_are e) (distances_are e);
  within = λ image plate radius codes distances r codes' distances' e.
      both_by (within_table_lem image (length plate) (length codes) (length distances)) _ _ _ refl (told_is e) (codes_are e) (distances_are e);
  short = λ image plate out number out' s.
      number_by (short_numbers image (length plate) (length out)) s.is_number (front_by (short_table_lem image (length plate) (length out)) _ _ refl s.is_out);
  list = λ image room r room' e. front_by (list_table_lem image (length room)) _ _ (answer_is e) (buffer_is e);
}

-- ---- the doors

pub doors_by_table : Doors1
unfolding check_of start_of add_of file_of list_of sitting_of within_of
doors_by_table = record {
  kw_check = λ image word b e. subst (VerdictBy (table image)) (sym (check_read image b e)) (verdict_by (check_table image));
  kw_start = λ wells metric code profile buffer word buffer' w.
      front_by (start_table_lem wells metric code profile (length buffer)) _ _ (start_read wells metric code profile buffer w) w.is_buffer;
  kw_add = λ buffer stated code profile word buffer' b h v w.
      front_by (add_table_lem buffer stated code profile) _ _ (add_read buffer stated code profile b h v w) w.is_buffer;
  kw_file = λ image buffer word buffer' b w. front_by (file_table_lem image (length buffer)) _ _ (file_read image buffer b w) w.is_buffer;
  kw_list = λ image buffer word buffer' b w. front_by (list_table_lem image (length buffer)) _ _ (list_read image buffer b w) w.is_buffer;
  kw_sitting = λ image plates k codes distances word codes' distances' b s.
      both_by (sitting_table_lem image (length plates) k (length codes) (length distances)) _ _ _ refl (sitting_read image plates k codes distances b s) s.is_codes s.is_distances;
  kw_within = λ image plate radius codes distances word codes' distances' b s.
      both_by (within_table_lem image (length plate) (length codes) (length distances)) _ _ _ refl (within_read image plate radius codes distances b s) s.is_codes s.is_distances;
}

pub demand_1 : Demand1
demand_1 = record { calls = calls_by_table; doors = doors_by_table }
