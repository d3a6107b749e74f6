use Rattle.worked.proofs.Tables.{school_accepted, school_steady, hasty_refused, loose_accepted, loose_unsteady_first, loose_unsteady_place, loose_unsteady}
use Rattle.worked.proofs.Texts.{re_cut_it_cut, cut_it_cut, cut_it_joint, re_cut_it_tail, paired_characters, re_cut_it_found, loose_found, loose_cut}
use Rattle.worked.proofs.Books.{re_cut_it_book, a_b_joined, a_b_hyphen}
use Rattle.worked.proofs.worked_cases.Goals as goal

pub returns : goal.returns
returns c = record {
  school_accepted = school_accepted;
  re_cut_it_cut = re_cut_it_cut;
  cut_it_cut = cut_it_cut;
  cut_it_joint = cut_it_joint;
  re_cut_it_tail = re_cut_it_tail;
  hasty_refused = hasty_refused;
  paired_characters = paired_characters;
  re_cut_it_found = re_cut_it_found;
  loose_accepted = loose_accepted;
  loose_found = loose_found;
  loose_cut = loose_cut;
  school_steady = school_steady;
  loose_unsteady_first = loose_unsteady_first;
  loose_unsteady_place = loose_unsteady_place;
  loose_unsteady = loose_unsteady;
  re_cut_it_book = re_cut_it_book;
  a_b_joined = a_b_joined;
  a_b_hyphen = a_b_hyphen;
}
