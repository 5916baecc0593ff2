-- `state::soundness::is_filed_in_range` meets its contract: the streams' ids, due times and releases are what a queue can file.
use Rattle.std.proofs.Common.{rules, ◌≡◌, length, arith}
use Rattle.state.proofs.Facts.SoundTest.{can_file, filed_exactly}
use Rattle.state.proofs.soundness.is_filed_in_range.Goals as goal

pub is_sound_filing_in_range-requires : goal.is_sound_filing_in_range-requires
is_sound_filing_in_range-requires c =
    let long : length c.args.table.now.streams ≡ 64 = omega arith in
    can_file c.requires long c.ids_in_range-ids.ensures c.column_in_range-dues.result c.column_in_range-releases.result
    (λ k low. let due = c.column_in_range-dues.ensures.held k low in search rules)
    (λ k low. let release = c.column_in_range-releases.ensures.held k low in search rules)

pub returns : goal.returns
returns c =
    let long : length c.args.table.now.streams ≡ 64 = omega arith in
    filed_exactly c.requires long c.ids_in_range-ids.ensures c.column_in_range-dues.result c.column_in_range-releases.result
    (λ k low. let due = c.column_in_range-dues.ensures.held k low in search rules)
    (λ k low. let release = c.column_in_range-releases.ensures.held k low in search rules)
    _ c.is_sound_filing_in_range.ensures
