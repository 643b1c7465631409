pub mod LeaveChange
