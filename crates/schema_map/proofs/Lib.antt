mod Bones
mod Leaves
mod Fields
mod Counts
mod Storing
