-- The figures of Limits as the constants of src/lib.rt must be (Frames 19).
use Rattle.model.specs.Limits.{
  shortest_frame,
  longest_frame,
  write_frame,
  longest_stretch,
  reply_head,
  most_data,
  longest_reply,
  hold_time,
  silence_limit,
  most_lag,
  file_room,
  most_dropped,
  record_head,
  longest_record,
  most_means,
  most_samples,
}
use Rattle.model.specs.declared.Limits.{Limits}

abbrev pub limits_told : Limits
limits_told =
    record {
      shortest = shortest_frame;
      longest = longest_frame;
      write = write_frame;
      stretch = longest_stretch;
      head = reply_head;
      most = most_data;
      reply = longest_reply;
      hold = hold_time;
      silent = silence_limit;
      lag = most_lag;
      room = file_room;
      dropped = most_dropped;
      stamp = record_head;
      slot = longest_record;
      means = most_means;
      samples = most_samples;
    }
