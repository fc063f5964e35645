-- A commit adds exactly the tags that its firings bring.
use Rattle.std.proofs.Common.{length, map, arith, ap, ◌∙◌}
use Rattle.std.proofs.lemmas.List.Sorted.{IsPermutation-refl}
use Rattle.stream_model.specs.Tags.{tags_within}
use Rattle.stream_model.specs.Network.{node_at, given_by, entering, fires}
use Rattle.stream_model.proofs.Streams.{given_by-rises}
use Rattle.stream_laws.specs.Tags.{tags_in, brought}
use Rattle.stream_laws.proofs.InTime.{no_tag_is_late}
use Rattle.stream_laws.proofs.Later.{items-length}
use Rattle.machine_laws.specs.Sound.{fired, reached}
use Rattle.machine_laws.specs.Stays.{CommitsAddTheirTags}
use Rattle.machine_laws.proofs.Frames.{handed_same}
use Rattle.machine_laws.proofs.Lengths.{reached_fires}

pub commits_add_their_tags : CommitsAddTheirTags
commits_add_their_tags net caps st can sound b in' other p =
    let n = node_at net b in
    let ts = tags_in net st.handed b in
    let in_time = no_tag_is_late net can st.handed b p in' other in
    let most = reached_fires net can caps st sound st.handed (handed_same st.handed) b in' in
    let long = items-length net can st.handed b p in' in
    let whole = given_by-rises n (can.sound b) (reached st b) (fires n (map length (entering net st.handed b))) most in
    let less = given_by-rises n (can.sound b) (fired st b) (reached st b) (omega arith) in
    record {
      before = in_time.right (fired st b) (omega arith);
      after = ap (tags_within 0 (given_by n (reached st b))) (in_time.next (fired st b) (reached st b) (brought n p (fired st b) (reached st b) ts) (omega arith) (IsPermutation-refl (brought n p (fired st b) (reached st b) ts)))
          ∙ in_time.right (reached st b) (omega arith);
    }
